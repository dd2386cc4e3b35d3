-- What groups have kept of some records.
use Rattle.std.specs.Prelude.{◌≡◌, ◌≢◌, ℕ, ◌+◌, ◌<◌, ◌≤◌, ◌^◌, List, [], ◌∷◌, ◌++◌, length, map, slice_index_or}
use Rattle.std.specs.Prelude.{if◌then◌else◌}
use Rattle.std.specs.List.{AllByRecursion}
use Rattle.std.specs.Ordering.{is_eq}
use Rattle.lq_ast.specs.Grouping.{asked}
use Rattle.lq_ast.specs.Groups.{key_tuple, members}
use Rattle.lq_ast.specs.Records.{Record}
use Rattle.lq_ast.specs.Stage.{GroupBy, Statistic}
use Rattle.lq_ast.specs.Tuples.{Tuple, tuple_cmp}
use Rattle.lq_tuple.specs.Counted.{AreShort, HaveLength, tuple_text}
use Rattle.lq_tuple.specs.Once.{HasEachOnce, count}
use Rattle.lq_tuple.specs.Places.{AreKnown}
use Rattle.lq_stats.specs.State.{AreTaken, state_call}
use Rattle.lq_stats.specs.declared.groups.Groups.{Groups}
use Rattle.lq_stats.specs.declared.groups.States.{States}
use Rattle.lq_stats.specs.declared.state.State.{State}

-- The state is that of the function over these records.
abbrev pub IsStateOf : Statistic → State → List Record → Type 0
IsStateOf s state records = (state_call state ≡ s.call) × AreTaken s.names state (asked s.only records)

-- There is a state for each function, over these records.
pub record AreStates (statistics : List Statistic) (states : List State) (records : List Record) : Type 0 where
  pub long : length states ≡ length statistics
  pub each : (k : ℕ) (d : Statistic) (e : State) → k < length statistics
      → IsStateOf (slice_index_or statistics k d) (slice_index_or states k e) records

-- The new state is that of the function over one more record, if these were fewer than 2^32.
abbrev pub TakesOne : Statistic → State → State → Record → Type 0
TakesOne s old new r =
    (records : List Record) → length records < 2 ^ 32 → IsStateOf s old records → IsStateOf s new (records ++ r ∷ [])

-- The new states are those of one more record, if these were fewer than 2^32.
abbrev pub TakesRecord : List Statistic → List State → List State → Record → Type 0
TakesRecord statistics old new r =
    (records : List Record) → length records < 2 ^ 32 → AreStates statistics old records
    → AreStates statistics new (records ++ r ∷ [])

-- The texts are those of the tuples of the records and of some more, each tuple once, and the states at its place are
-- those of its records.
pub record AreGroups (keys : List GroupBy) (statistics : List Statistic) (groups : Groups) (more : List Tuple)
    (records : List Record) : Type 0 where
  pub tuples : List Tuple
  pub known : AreKnown groups.places (map tuple_text tuples)
  pub once : HasEachOnce tuple_cmp tuples (more ++ map (key_tuple keys) records)
  pub wide : HaveLength (length keys) tuples
  pub long : length groups.states.items ≡ length tuples
  pub states : (k : ℕ) (d : States) → k < length tuples
      → AreStates statistics (slice_index_or groups.states.items k d).list.items
      (members keys records (slice_index_or tuples k []))

-- The tuple of a record stands at this place among those of these groups.
pub record IsEnteredIn (keys : List GroupBy) (statistics : List Statistic) (groups : Groups) (more : List Tuple)
    (records : List Record) (r : Record) (place : ℕ) : Type 0 where
  pub are : AreGroups keys statistics groups more records
  pub inside : place < length are.tuples
  pub tuple : slice_index_or are.tuples place [] ≡ key_tuple keys r

-- It is new where the tuple is.
abbrev pub IsEntered : List GroupBy → List Statistic → Groups → Groups → Record → ℕ → Type 0
IsEntered keys statistics old new r place =
    (more : List Tuple) (records : List Record) → AreGroups keys statistics old more records
    → IsEnteredIn keys statistics new (more ++ key_tuple keys r ∷ []) records r place

-- The new groups are those of one more record, if these were fewer than 2^32.
abbrev pub TakeRecord : List GroupBy → List Statistic → Groups → Groups → Record → Type 0
TakeRecord keys statistics old new r =
    (more : List Tuple) (records : List Record) → length records < 2 ^ 32 → AreGroups keys statistics old more records
    → AreGroups keys statistics new more (records ++ r ∷ [])

-- The new groups are those of these records too, if with them there are at most 2^32.
abbrev pub TakeRecords : List GroupBy → List Statistic → Groups → Groups → List Record → Type 0
TakeRecords keys statistics old new taken =
    (more : List Tuple) (records : List Record) → length records + length taken ≤ 2 ^ 32
    → AreGroups keys statistics old more records → AreGroups keys statistics new more (records ++ taken)

-- ---- the records of two lists

-- Each function is asked of fewer than 2^32 fields.
abbrev pub AskFewFields : List Statistic → Type 0
AskFewFields statistics = AllByRecursion (λ s. length s.names < 2 ^ 32) statistics

-- The new state is that of the function over the records of both, if these are at most 2^32.
abbrev pub JoinsState : State → State → State → Type 0
JoinsState old other new =
    (s : Statistic) (records others : List Record) → length s.names < 2 ^ 32 → length records + length others ≤ 2 ^ 32
    → IsStateOf s old records → IsStateOf s other others → IsStateOf s new (records ++ others)

-- The state at this place is joined by one of other records, where there is one, and the others stay.
pub record JoinsAt (place : ℕ) (other : State) (old new : List State) : Type 0 where
  pub long : length new ≡ length old
  pub others : (k : ℕ) (d : State) → k ≢ place → slice_index_or new k d ≡ slice_index_or old k d
  pub here : (d : State) → place < length old
      → JoinsState (slice_index_or old place d) other (slice_index_or new place d)

-- The new states are those of the records of both, if these are at most 2^32.
abbrev pub JoinStates : List State → List State → List State → Type 0
JoinStates old other new =
    (statistics : List Statistic) (records others : List Record) → AskFewFields statistics
    → length records + length others ≤ 2 ^ 32 → AreStates statistics old records → AreStates statistics other others
    → AreStates statistics new (records ++ others)

-- The new groups are those of the records of both, if these are at most 2^32.
abbrev pub JoinGroups : Groups → Groups → Groups → Type 0
JoinGroups old other new =
    (keys : List GroupBy) (statistics : List Statistic) (more : List Tuple) (records others : List Record)
    → AskFewFields statistics → length records + length others ≤ 2 ^ 32
    → AreGroups keys statistics old more records → AreGroups keys statistics other more others
    → AreGroups keys statistics new more (records ++ others)

-- The texts of these tuples are known by their places, and at the place of each tuple stand the states of its records.
pub record AreKept (statistics : List Statistic) (width : ℕ) (groups : Groups) (tuples : List Tuple)
    (held : Tuple → List Record) : Type 0 where
  pub known : AreKnown groups.places (map tuple_text tuples)
  pub wide : HaveLength width tuples
  pub long : length groups.states.items ≡ length tuples
  pub each : (k : ℕ) (d : States) → k < length tuples
      → AreStates statistics (slice_index_or groups.states.items k d).list.items (held (slice_index_or tuples k []))

-- the same records, and for one tuple some more
abbrev pub with_more : (Tuple → List Record) → Tuple → List Record → Tuple → List Record
with_more held t more u = if is_eq (tuple_cmp t u) then held u ++ more else held u

-- What is kept now, where one tuple has more records.
pub record IsTaken (statistics : List Statistic) (width : ℕ) (groups : Groups) (held : Tuple → List Record) (t : Tuple)
    (more : List Record) (all : List Tuple) : Type 0 where
  pub tuples : List Tuple
  pub kept : AreKept statistics width groups tuples (with_more held t more)
  pub once : HasEachOnce tuple_cmp tuples (all ++ t ∷ [])

-- The states are of more records of the tuple with this text, which with those that it has are at most 2^32.
pub record IsMore (statistics : List Statistic) (width : ℕ) (states : States) (text : List ℕ) (tuples : List Tuple)
    (held : Tuple → List Record) (t : Tuple) (more : List Record) : Type 0 where
  pub asked : AskFewFields statistics
  pub said : text ≡ tuple_text t
  pub wide : length t ≡ width
  pub short : AreShort t
  pub free : count tuple_cmp t tuples ≡ 0 → held t ≡ []
  pub few : length (held t) + length more ≤ 2 ^ 32
  pub over : AreStates statistics states.list.items more

-- The new groups have the states of more records of the tuple with this text.
abbrev pub TakeStates : Groups → Groups → List ℕ → States → Type 0
TakeStates old new text states =
    (statistics : List Statistic) (width : ℕ) (tuples all : List Tuple) (held : Tuple → List Record) (t : Tuple)
    (more : List Record) → IsMore statistics width states text tuples held t more → HasEachOnce tuple_cmp tuples all
    → AreKept statistics width old tuples held → IsTaken statistics width new held t more all
