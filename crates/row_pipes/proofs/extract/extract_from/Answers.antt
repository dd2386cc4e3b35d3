use Rattle.std.proofs.Common.{◌≡◌, ◌+◌, ◌∷◌, drop, map, rules}
use Rattle.lq_ast.specs.MakingView.{pattern_piece}
use Rattle.row_pipes.proofs.Extracting.{after_name, after_text, pieces_from}
use Rattle.row_pipes.proofs.extract.extract_from.Goals as goal
use Rattle.row_pipes.proofs.extract.extract_from.Goals.{in-Plain+in_ok-put_extracted-in-Plain}
use Rattle.row_pipes.proofs.extract.extract_from.Goals.{in-Name+in_ok-put_extracted-in-Name}

pub loop-piece-preserved : goal.loop-piece-preserved
loop-piece-preserved c =
    let later = map pattern_piece (drop (c.loop-piece.piece-index + 1) c.args.pieces.now) in
    let from_here : map pattern_piece (drop c.loop-piece.piece-index c.args.pieces.now)
    ≡ pattern_piece c.piece-item.result ∷ later =
    pieces_from c.args.pieces.now c.loop-piece.piece-index c.piece-item.result c.loop-piece-test.true c.piece-item.is in
    elim c.match-piece.branch [
      | in-Plain+in_ok-put_extracted-in-Plain w ↦
          let waiting = rw (from_here, w.in-Plain.is) at c.loop-piece.invariant.2 in (
            search rules,
            search rules,
            rw (
              w.r-is,
              w.left-is,
              w.name-is,
              w.in_ok-put_extracted-in-Plain.ensures,
              w.split_at_text.ensures.before,
              w.split_at_text.ensures.after,
              w.as_str.ensures.value,
            )
                (after_text c.loop-piece.r c.loop-piece.name.now w.in-Plain.text later c.loop-piece.left.now _ waiting),
          )
      | in-Name+in_ok-put_extracted-in-Name w ↦
          let waiting = rw (from_here, w.in-Name.is) at c.loop-piece.invariant.2 in (
            rw w.left-is c.loop-piece.invariant.0,
            rw w.name-is w.as_str-name.utf8,
            rw (w.r-is, w.left-is, w.name-is, w.in_ok-put_extracted-in-Name.ensures, w.as_str-name.ensures.value)
                (after_name c.loop-piece.r c.loop-piece.name.now w.in-Name.next later c.loop-piece.left.now _ waiting),
          )
    ]
