-- What a function has kept of some records.
use Rattle.std.specs.Prelude.{◌≡◌, ℕ, ◌+◌, ◌<◌, ◌≤◌, ◌^◌, Bool, true, false, not, List, [], ◌∷◌, ◌++◌, length, filter}
use Rattle.std.specs.Prelude.{map}
use Rattle.lq_ast.specs.Records.{Record}
use Rattle.lq_ast.specs.Statistics.{counted, has_some, values}
use Rattle.lq_ast.specs.Tuples.{is_wholly_empty, tuple_of}
use Rattle.lq_ast.specs.declared.pipe.Call.{Call}
use Rattle.lq_ast.specs.declared.pipe.Call.TheVariants as call
use Rattle.lq_tuple.specs.Counted.{AreCounted}
use Rattle.lq_stats.specs.Measure.{AreMeasured, measure_call}
use Rattle.lq_stats.specs.declared.state.State.{State}
use Rattle.lq_stats.specs.declared.state.State.TheVariants.{Count, CountEmpty, CountUniq, OfValues}

abbrev pub is_nil : List (List ℕ) → Bool
is_nil [] = true
is_nil (name ∷ names) = false

-- the function whose state it is
abbrev pub state_call : State → Call
state_call (Count number) = call.Count
state_call (CountEmpty number) = call.CountEmpty
state_call (CountUniq texts) = call.CountUniq
state_call (OfValues measure) = measure_call measure

-- The state is what the function of these fields keeps of the records.
abbrev pub AreTaken : List (List ℕ) → State → List Record → Type 0
AreTaken names (Count number) records = number ≡ counted names records
AreTaken names (CountEmpty number) records = number ≡ length (filter (λ r. not (has_some names r)) records)
AreTaken names (CountUniq texts) records =
    AreCounted texts (length names) (filter (λ tuple. not (is_wholly_empty tuple)) (map (tuple_of names) records))
AreTaken names (OfValues measure) records = AreMeasured measure (values names records)

-- The new state is that of one more record, if these were fewer than 2^32.
abbrev pub Takes : List (List ℕ) → State → State → Record → Type 0
Takes names old new r =
    (records : List Record) → length records < 2 ^ 32 → AreTaken names old records
    → AreTaken names new (records ++ r ∷ [])

-- The new state is that of the records of both, if these are at most 2^32 and the fields fewer than that.
abbrev pub Joins : State → State → State → Type 0
Joins old other new =
    (names : List (List ℕ)) (records others : List Record) → length names < 2 ^ 32
    → length records + length others ≤ 2 ^ 32 → AreTaken names old records → AreTaken names other others
    → AreTaken names new (records ++ others)
