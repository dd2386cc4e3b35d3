use Rattle.std.proofs.Common.{◌≡◌, map, take}
use Rattle.lq_ast.specs.Made.{formatted}
use Rattle.lq_ast.specs.MakingView.{pattern_piece}
use Rattle.row_pipes.proofs.format.formatted.Given as goal

abbrev pub invariant-loop-piece : goal.invariant-loop-piece
invariant-loop-piece l = l.value ≡ formatted (map pattern_piece (take l.piece-index l.pieces)) l.r
