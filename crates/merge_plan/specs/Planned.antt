-- What a plan says, and of what.
use Rattle.std.specs.Prelude.{◌≡◌, ℕ, ◌==◌, ◌<◌, Bool, nat_lt, List, ◌++◌, length, map, flat_map}
use Rattle.std.specs.List.{All, Contains, IsDistinct, filter}
use Rattle.std.specs.List.Sorted.{IsPermutation}
use Rattle.log_model.specs.History.{Numbered}
use Rattle.day_model.specs.Days.{DayRows, rows_of_day}
use Rattle.part_model.specs.Part.{rows_weight}
use Rattle.part_store.specs.State.{Listed, is_day, kept}
use Rattle.merge_plan.specs.Joining.{joined_last}

-- the rows of all parts, one part after another
abbrev pub rows_of_parts : List DayRows → List Numbered
rows_of_parts parts = flat_map (λ (part : DayRows). part.1) parts

abbrev pub rows_of_listed : List Listed → List Numbered
rows_of_listed parts = flat_map (λ (part : Listed). part.rows) parts

abbrev pub is_of : ℕ → DayRows → Bool
is_of day part = part.0 == day

-- what the parts of this day weigh, in their order
abbrev pub weights_of_day : ℕ → List DayRows → List ℕ
weights_of_day day parts = map (λ (part : DayRows). rows_weight part.1) (filter (is_of day) parts)

abbrev pub listed_weights : ℕ → List Listed → List ℕ
listed_weights day parts = map (λ (part : Listed). rows_weight part.rows) (filter (is_day day) parts)

abbrev pub has_rows : List Numbered → Bool
has_rows rows = nat_lt 0 (length rows)

-- the rows of this day of each batch that has some
abbrev pub day_rows : ℕ → List (List Numbered) → List (List Numbered)
day_rows day batches = filter has_rows (map (rows_of_day day) batches)

-- The kept parts and the new ones have the rows of the listed ones and of the batches, each once.
abbrev pub KeepsRows : List Listed → List (List Numbered) → List ℕ → List DayRows → Type 0
KeepsRows listed batches old new =
    IsPermutation (rows_of_listed (kept old listed) ++ rows_of_parts new)
    (rows_of_listed listed ++ flat_map (λ batch. batch) batches)

-- They are files of listed parts, each once.
pub record AreListed (listed : List Listed) (old : List ℕ) : Type 0 where
  pub each : All (Contains (map (λ (part : Listed). part.file) listed)) old
  pub once : IsDistinct (λ (a b : ℕ). a == b) old

-- The last part of each day is joined with the new rows of the day, those of one batch after those of another. So a day
-- without new rows keeps its parts.
abbrev pub JoinsDays : List Listed → List (List Numbered) → List ℕ → List DayRows → Type 0
JoinsDays listed batches old new =
    (day : ℕ) → listed_weights day (kept old listed) ++ weights_of_day day new
    ≡ joined_last (listed_weights day listed) (map rows_weight (day_rows day batches))
