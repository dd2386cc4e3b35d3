-- How pieces are grouped: a piece is what one batch has of a day, and a group is what becomes one part.
use Rattle.std.specs.Prelude.{◌≡◌, ◌≢◌, ◌⊎◌, true, ℕ, ◌+◌, ◌<◌, ◌≤◌, ◌==◌, Bool, nat_le, List, [], ◌∷◌, ◌++◌, length}
use Rattle.std.specs.Prelude.{map, flat_map}
use Rattle.std.specs.Prelude.{if◌then◌else◌, Option, Some, None, IfSome}
use Rattle.std.specs.List.{AllByRecursion, filter, last_or, list_any}
use Rattle.std.specs.List.Sorted.{IsPermutation}
use Rattle.std.specs.Arc.{arc_value}
use Rattle.log_model.specs.History.{Numbered}
use Rattle.log_model.specs.Row.{batch_limit}
use Rattle.day_model.specs.Days.{DayRows, LieInDay, AreOfTheirDays}
use Rattle.part_model.specs.Part.{rows_weight}
use Rattle.part_store.specs.State.{Listed, is_day, kept}
use Rattle.day_parts.specs.declared.splitting.DayPart.{DayPart}
use Rattle.merge_plan.specs.Planned.{AreListed, day_rows, is_of, listed_weights, rows_of_listed, rows_of_parts}
use Rattle.merge_plan.specs.Planned.{weights_of_day}

-- the rows of parts, one part after another
abbrev pub rows_in_parts : List (List Numbered) → List Numbered
rows_in_parts parts = flat_map (λ (part : List Numbered). part) parts

-- A group has a part at least, and its parts lie in the day and fit into one.
pub record HoldsJob (day weight : ℕ) (parts : List (List Numbered)) : Type 0 where
  pub some : 0 < length parts
  pub sum : weight ≡ rows_weight (rows_in_parts parts)
  pub light : weight ≤ batch_limit
  pub days : LieInDay day (rows_in_parts parts)

-- the group and a piece that comes after it: one group if they fit into one part, and else two
abbrev pub with_piece : DayRows → List Numbered → List DayRows
with_piece job rows =
    if nat_le (rows_weight job.1 + rows_weight rows) batch_limit then (job.0, job.1 ++ rows) ∷ []
    else job ∷ (job.0, rows) ∷ []

-- no group is of this day, or the last is of another one
abbrev pub EndsElsewhere : ℕ → List DayRows → Type 0
EndsElsewhere day jobs = IfSome (last_or None jobs) (λ job. job.0 ≢ day)

-- The part is the last one of this day.
pub record IsYoungest (day : ℕ) (part : Listed) (listed : List Listed) : Type 0 where
  pub before : List Listed
  pub after : List Listed
  pub parts : listed ≡ before ++ part ∷ after
  pub day_is : part.day ≡ day
  pub last : filter (is_day day) after ≡ []

-- the rows lie in the day beside them
abbrev pub IsOfItsDay : DayRows → Type 0
IsOfItsDay piece = LieInDay piece.0 piece.1

-- A group begins with the youngest part of the day of the piece. The file of that part is then old.
pub record BeginsWithYoungest (listed : List Listed) (piece : DayRows) (old now : List ℕ)
    (jobs after : List DayRows) : Type 0 where
  pub youngest : Listed
  pub is : IsYoungest piece.0 youngest listed
  pub fits : rows_weight youngest.rows + rows_weight piece.1 ≤ batch_limit
  pub old_is : now ≡ old ++ youngest.file ∷ []
  pub jobs_are : after ≡ jobs ++ (piece.0, youngest.rows ++ piece.1) ∷ []

-- the day has no part, or its youngest one and the piece do not fit into one part
abbrev pub IsAlone : List Listed → DayRows → Type 0
IsAlone listed piece =
    (filter (is_day piece.0) listed ≡ [])
    ⊎ ((youngest : Listed) × IsYoungest piece.0 youngest listed
    × (batch_limit < rows_weight youngest.rows + rows_weight piece.1))

-- A group begins with the piece.
pub record BeginsAlone (listed : List Listed) (piece : DayRows) (old now : List ℕ)
    (jobs after : List DayRows) : Type 0 where
  pub alone : IsAlone listed piece
  pub old_is : now ≡ old
  pub jobs_are : after ≡ jobs ++ piece ∷ []

abbrev pub Begins : List Listed → DayRows → List ℕ → List ℕ → List DayRows → List DayRows → Type 0
Begins listed piece old now jobs after =
    BeginsWithYoungest listed piece old now jobs after ⊎ BeginsAlone listed piece old now jobs after

-- a part of a day, as a piece
abbrev pub split_rows : DayPart → DayRows
split_rows split = (split.day, split.part)

-- The pieces are the rows of the batches, each once, in order of their days. Those of a day are in the order of their
-- batches.
pub record ArePieces (batches : List (List Numbered)) (pieces : List DayRows) : Type 0 where
  pub rows : IsPermutation (rows_of_parts pieces) (rows_in_parts batches)
  pub days : AreOfTheirDays pieces
  pub by_day : (day : ℕ) → map (λ (piece : DayRows). piece.1) (filter (is_of day) pieces) ≡ day_rows day batches

-- the days do not fall
abbrev pub AreRising : List DayRows → Type 0
AreRising [] = Unit {0}
AreRising (piece ∷ pieces) = AllByRecursion (λ (other : DayRows). piece.0 ≤ other.0) pieces × AreRising pieces

-- Each group became one part, with its rows.
abbrev pub IsMerged : DayRows → DayRows → Type 0
IsMerged job part = (part.0 ≡ job.0) × IsPermutation part.1 job.1 × LieInDay part.0 part.1

abbrev pub is_among : List ℕ → ℕ → Bool
is_among files file = list_any (λ (other : ℕ). other == file) files

abbrev pub has_day : ℕ → List DayRows → Bool
has_day day jobs = list_any (is_of day) jobs

-- the weights of parts, of which the last is joined with one more while both fit into one
abbrev pub add_last : List ℕ → ℕ → List ℕ
add_last [] next = next ∷ []
add_last (weight ∷ []) next =
    if nat_le (weight + next) batch_limit then (weight + next) ∷ [] else weight ∷ next ∷ []
add_last (weight ∷ other ∷ weights) next = weight ∷ add_last (other ∷ weights) next

-- the same with each of these, one after another
abbrev pub all_added : List ℕ → List ℕ → List ℕ
all_added weights [] = weights
all_added weights (next ∷ rest) = all_added (add_last weights next) rest

-- The pieces `done` are in groups, and the files `old` are those of the stored parts that are in groups. The pieces
-- `rest`
-- come later, and are of no earlier day.
pub record IsGrouped (listed : List Listed) (done rest : List DayRows) (old : List ℕ)
    (jobs : List DayRows) : Type 0 where
  pub rows : IsPermutation (rows_of_listed (kept old listed) ++ rows_of_parts jobs)
      (rows_of_listed listed ++ rows_of_parts done)
  pub weights : (day : ℕ) → listed_weights day (kept old listed) ++ weights_of_day day jobs
      ≡ all_added (listed_weights day listed) (weights_of_day day done)
  pub files : AreListed listed old
  -- A listed part is in a group only if its day has groups.
  pub begun : AllByRecursion (λ (part : Listed). is_among old part.file ≡ true → has_day part.day jobs ≡ true) listed
  -- The groups are of the days up to that of the last one, and what is left is of that day or later ones.
  pub latest : ℕ
  pub last : IfSome (last_or None jobs) (λ job. job.0 ≡ latest)
  pub up : AllByRecursion (λ (job : DayRows). job.0 ≤ latest) jobs
  pub later : AllByRecursion (λ (piece : DayRows). latest ≤ piece.0) rest
  pub rising : AreRising rest
