use Rattle.std.proofs.Common.{Some, drop, fold, map}
use denote.Shadow.{shadow}
use denote.Text.{Utf8}
use Rattle.lq_ast.specs.Made.{extracted, put_extracted}
use Rattle.lq_ast.specs.MakingView.{pattern_piece}
use Rattle.row_pipes.proofs.Extracting.{Waiting}
use Rattle.row_pipes.proofs.extract.extract_from.Given as goal

-- What is set from here on makes the same record as all pieces make of the first one.
abbrev pub invariant-loop-piece : goal.invariant-loop-piece
invariant-loop-piece l =
    shadow (Utf8 l.left) × shadow (Utf8 l.name)
    × Waiting l.r l.name (map pattern_piece (drop l.piece-index l.pieces)) l.left
    (fold put_extracted l.fn.r (extracted (map pattern_piece l.fn.pieces) (Some l.fn.value)))
