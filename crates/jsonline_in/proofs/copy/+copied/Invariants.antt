use Rattle.std.proofs.Common.{◌+◌, ◌*◌, ◌∷◌, [], ◌++◌, length, string_bytes}
use denote.Text.{Utf8}
use denote.Shadow.{shadow}
use Rattle.log_model.specs.Value.{series}
use Rattle.jsonline_in.specs.Reading.{nested_at, items_at}
use Rattle.jsonline_in.specs.Clauses.{kind_of, compact}
use Rattle.jsonline_in.proofs.Loops.{Continued}
use Rattle.jsonline_in.proofs.copy.+copied.Given as goal

abbrev pub decreases-copy_value : goal.decreases-copy_value
decreases-copy_value l = 4 * l.depth + 1

abbrev pub decreases-copy_nested : goal.decreases-copy_nested
decreases-copy_nested l = 4 * l.depth

abbrev pub decreases-copy_items : goal.decreases-copy_items
decreases-copy_items l = 4 * l.depth + 3

abbrev pub decreases-copy_item : goal.decreases-copy_item
decreases-copy_item l = 4 * l.depth + 2

abbrev pub invariant-copy_items-items : goal.invariant-copy_items-items
invariant-copy_items-items l =
    shadow (Utf8 l.rest) × Continued l.depth (kind_of l.bracket)
    (λ items. string_bytes l.fn.copied ++ compact (series (kind_of l.bracket) [] items))
    (λ items. string_bytes l.copied ++ compact (series (kind_of l.bracket) ((44 ∷ []) ∷ []) items)) l.rest
    (items_at (nested_at l.depth) (kind_of l.bracket) l.text)

abbrev pub decreases-copy_items-items : goal.decreases-copy_items-items
decreases-copy_items-items l = length l.rest
