use Rattle.std.proofs.Common.{arith}
use Rattle.block_gather.proofs.NameLaws.{names-known}
use Rattle.block_gather.proofs.names.are_known.Goals as goal

pub returns : goal.returns
returns c known =
    names-known c.args.picks.now c.args.i c.index-picks-i.result c.index-picks-i-2.result c.requires (omega (
      arith,
      c.if-i-lt1.false,
    )) c.index-picks-i.is c.index-picks-i-2.is (c.have_same_names.ensures known)
