use Rattle.std.proofs.Common.{arith}
use Rattle.syslog_in.proofs.Pieces.{grown}
use Rattle.syslog_in.proofs.reach.complete.Goals as goal

pub returns-then-not-matches-clause-ok : goal.returns-then-not-matches-clause-ok
returns-then-not-matches-clause-ok c =
    grown c.args.kept.now.items c.pieces.kept.items _ c.args.piece.now c.pieces.used c.wanted.result
    c.pieces.invariant.1 c.in_ok-extend_from_slice.ensures.items

pub pieces-preserved : goal.pieces-preserved
pieces-preserved c = (
  omega (arith, c.wanted.ensures.most),
  grown c.args.kept.now.items c.pieces.kept.items _ c.args.piece.now c.pieces.used c.wanted.result
      c.pieces.invariant.1 c.in_ok-extend_from_slice.ensures.items,
)
