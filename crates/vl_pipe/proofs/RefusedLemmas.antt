-- A body that the contract refuses: one that names the refused lines of all groups only at the end of the input. Where
-- the error stream fails at an early name, more lines lie after its group than seven groups and one read can have, and
-- no status says so.
use Rattle.std.proofs.Common.{◌⊎◌, inl, inr, ℕ, ◌+◌, ◌*◌, ◌<◌, ◌≤◌, cond, List}
use Rattle.std.proofs.Common.{ap, arith}
use Rattle.std.proofs.lemmas.List.Sums.{count_by-le-length, sum_by-append}
use Rattle.std.specs.Prelude.{count_by}
use Rattle.vl_io.specs.Change.{Change}
use Rattle.vl_io.specs.Lines.{AreFewer, AreLines, is_feed, piece_len}
use Rattle.vl_pipe.specs.Groups.{Arrival}
use Rattle.vl_pipe.specs.Program.{AreFew}
use Rattle.vl_pipe.specs.Ended.{IsNamingFault}

feeds_few : (bytes : List ℕ) → AreFew 7 bytes → count_by is_feed bytes ≤ 7000 + piece_len
feeds_few bytes few =
    omega (
      arith,
      ap (count_by is_feed) few.parts,
      sum_by-append (λ b. cond (is_feed b) 1 0) few.grouped few.ahead,
      count_by-le-length is_feed few.ahead,
      few.short,
      at_most few.lines,
    )
  where
    at_most : AreFewer (7 * 1000) few.grouped ⊎ AreLines (7 * 1000) few.grouped
        → count_by is_feed few.grouped ≤ 7000
    at_most (inl fewer) = omega (arith, fewer)
    at_most (inr are) = omega (arith, are.feeds)

pub late_naming-refused : (arrival : Arrival) (source errors : Change) (fault : IsNamingFault arrival source errors)
    → 7000 + piece_len < count_by is_feed fault.begins.rest → ⊥
late_naming-refused arrival source errors fault more = omega (arith, feeds_few fault.begins.rest fault.few, more)
