use Rattle.std.proofs.Common.{◌≡◌, ◌-◌, ℕ, List}
use Rattle.std.specs.Int.{w64}
use Rattle.byte_format.specs.Format.{front, repeated, one_more, many}
use Rattle.byte_format.specs.Items.{number}
use Rattle.word_filter.proofs.skip_each.Given as goal

-- what was skipped, and what is left
abbrev pub invariant-loop : goal.invariant-loop
invariant-loop l = (passed : List ℕ) × (front (repeated (l.count - l.counter) (one_more (number w64)) passed) l.rest
    ≡ front (many l.count (number w64)) l.bytes)
