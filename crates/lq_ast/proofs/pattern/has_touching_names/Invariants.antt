use Rattle.std.proofs.Common.{◌≡◌, drop, map}
use Rattle.lq_ast.specs.MakingView.{pattern_piece}
use Rattle.lq_ast.specs.PatternText.{has_touching_names}
use Rattle.lq_ast.proofs.PatternReading.{touch_after}
use Rattle.lq_ast.proofs.pattern.has_touching_names.Given as goal

abbrev pub invariant-loop-piece : goal.invariant-loop-piece
invariant-loop-piece l =
    touch_after l.follows_name (map pattern_piece (drop l.piece-index l.pieces))
    ≡ has_touching_names (map pattern_piece l.pieces)
