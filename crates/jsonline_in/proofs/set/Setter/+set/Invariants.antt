use Rattle.std.proofs.Common.{◌≡◌, ◌+◌, ◌*◌, length, string_bytes}
use denote.Text.{Utf8}
use denote.Shadow.{shadow}
use Rattle.jsonline_in.specs.Near.{note_all}
use Rattle.log_model.specs.Value.{object, member_fields}
use Rattle.jsonline_in.specs.Reading.{nested_at, items_at}
use Rattle.jsonline_in.proofs.Loops.{Continued}
use Rattle.jsonline_in.proofs.set.Setter.+set.Given as goal

abbrev pub decreases-value : goal.decreases-value
decreases-value l = 3 * l.depth

abbrev pub decreases-member : goal.decreases-member
decreases-member l = 3 * l.depth + 1

abbrev pub decreases-members : goal.decreases-members
decreases-members l = 3 * l.depth + 2

abbrev pub invariant-members-members : goal.invariant-members-members
invariant-members-members l =
    shadow (Utf8 l.rest) × (string_bytes l.self.names ≡ string_bytes l.fn.self.names)
    × Continued l.depth object (λ members. note_all l.fn.out (member_fields (string_bytes l.fn.self.names) members))
    (λ members. note_all l.out (member_fields (string_bytes l.fn.self.names) members)) l.rest
    (items_at (nested_at l.depth) object l.text)

abbrev pub decreases-members-members : goal.decreases-members-members
decreases-members-members l = length l.rest
