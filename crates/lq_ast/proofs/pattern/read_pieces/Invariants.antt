use Rattle.std.proofs.Common.{◌≡◌, length, map}
use denote.Shadow.{shadow}
use denote.Text.{Utf8}
use Rattle.lq_ast.specs.MakingView.{pattern_piece}
use Rattle.lq_ast.specs.PatternText.{pieces_of}
use Rattle.lq_ast.proofs.PatternReading.{read_on}
use Rattle.lq_ast.proofs.pattern.read_pieces.Given as goal

abbrev pub invariant-names : goal.invariant-names
invariant-names l =
    shadow (Utf8 l.rest) × (read_on (map pattern_piece l.pieces.items) l.rest ≡ pieces_of l.fn.s)

abbrev pub decreases-names : goal.decreases-names
decreases-names l = length l.rest
