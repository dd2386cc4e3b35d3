use Rattle.std.proofs.Common.{◌+◌, ◌*◌, ◌∷◌, [], ◌++◌, length, string_bytes}
use denote.Text.{Utf8}
use denote.Shadow.{shadow}
use Rattle.log_model.specs.Value.{series}
use Rattle.jsonline_in.specs.Reading.{nested_at, items_at}
use Rattle.jsonline_in.specs.Clauses.{compact}
use Rattle.jsonline_in_plain.specs.Parts.{kind_of}
use Rattle.jsonline_in.proofs.Loops.{Continued}
use Rattle.jsonline_in_plain.proofs.tokens.Tokens.+tokens.Given as goal

abbrev pub decreases-value : goal.decreases-value
decreases-value l = 4 * l.depth + 1

abbrev pub decreases-nested : goal.decreases-nested
decreases-nested l = 4 * l.depth

abbrev pub decreases-items : goal.decreases-items
decreases-items l = 4 * l.depth + 3

abbrev pub decreases-item : goal.decreases-item
decreases-item l = 4 * l.depth + 2

abbrev pub invariant-items-items : goal.invariant-items-items
invariant-items-items l =
    shadow (Utf8 l.rest) × Continued l.depth (kind_of l.bracket)
    (λ items. string_bytes l.fn.self.text ++ compact (series (kind_of l.bracket) [] items))
    (λ items. string_bytes l.self.text ++ compact (series (kind_of l.bracket) ((44 ∷ []) ∷ []) items)) l.rest
    (items_at (nested_at l.depth) (kind_of l.bracket) l.text)

abbrev pub decreases-items-items : goal.decreases-items-items
decreases-items-items l = length l.rest
