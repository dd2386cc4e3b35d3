-- What becomes of an input on its way to the desk.
use Rattle.std.specs.Prelude.{◌≡◌, ◌⊎◌, ℕ, ◌+◌, ◌<◌, ◌≤◌, Bool, true, List, [], ◌∷◌, ◌++◌, length, Option, Some, None}
use Rattle.std.specs.List.{AllByRecursion}
use Rattle.vl_io.specs.Bytes.{Appends}
use Rattle.vl_io.specs.Change.{Change, Gave, IsCut, IsSpent, IsUntold, Took}
use Rattle.log_model.specs.Core.{held_limit}
use Rattle.log_model.specs.History.{History, batches_in}
use Rattle.log_model.specs.Row.{Batch, Row, batch_limit, batch_weight}
use Rattle.ingest_row.specs.Intake.{Outcome, rows_read}
use Rattle.lone_desk.specs.Seen.{Seen}
use Rattle.lone_desk.specs.Alone.{batches_of_rows}
use Rattle.vl_pipe.specs.Groups.{Arrival, AreGroups, BeginsWith, EndsLine, FitBatches, FitUnsettled, HaveOutcomes}
use Rattle.vl_pipe.specs.Groups.{batches_of, input_limit, outcomes_in, refusals_from, refusals_of}
use Rattle.vl_pipe.specs.Program as model
use Rattle.vl_pipe.specs.Program.{StopsBehind}
use Rattle.vl_pipe.specs.Ended.{IsNamingFault}
use Rattle.vl_pipe.specs.Window.{AreBehind, AreBodies, joined}
use Rattle.vl_pipe.specs.Interrupt.{limit_of}
use Rattle.vl_pipe.specs.declared.interrupt.Limit.{Limit}
use Rattle.vl_pipe.specs.declared.interrupt.Limit.TheVariants.{Long, Large, Full}
use Rattle.vl_pipe.specs.declared.interrupt.Interrupt.{Interrupt}
use Rattle.vl_pipe.specs.declared.interrupt.Interrupt.TheVariants.{Unreadable, Unwritable, Beyond, NoAnswer, NoMemory}

-- What has been seen is a history of the opened batches, and then of these. No more are unsettled than may be.
pub record IsHeld (opened : List Batch) (seen : Seen) (batches : List Batch) : Type 0 where
  pub entered : batches_in seen.history ≡ opened ++ batches
  pub few : length seen.history ≤ seen.settled + held_limit

-- Exactly the opened batches are settled.
abbrev pub AreSettled : List Batch → Seen → Type 0
AreSettled opened seen = seen.settled ≡ length opened

-- As many batches are unsettled as may be.
abbrev pub IsFull : Seen → Type 0
IsFull seen = length seen.history ≡ seen.settled + held_limit

-- The number is that of the last entry, which is new. Without a number there is no new entry.
abbrev pub IsLast : History → History → Option ℕ → Type 0
IsLast old new (Some number) = number ≡ length new
IsLast old new None = new ≡ old

-- why these rows are not loaded, by what has been seen then
abbrev pub IsTooMuch : Seen → List Row → Limit → Type 0
IsTooMuch seen rows Long = ⊥
IsTooMuch seen rows (Large weight) = (weight ≡ batch_weight rows) × (batch_limit < weight)
IsTooMuch seen rows Full = IsFull seen × (0 < length rows) × (batch_weight rows ≤ batch_limit)

-- why a group is not loaded
abbrev pub RefusesGroup : Arrival → List ℕ → Seen → Interrupt → Type 0
RefusesGroup arrival body seen Unreadable = ⊥
RefusesGroup arrival body seen Unwritable = ⊥
RefusesGroup arrival body seen (Beyond limit) =
    (group : List Outcome) × HaveOutcomes arrival body group × IsTooMuch seen (rows_read group) limit
RefusesGroup arrival body seen (NoAnswer overflow) = ⊥
RefusesGroup arrival body seen NoMemory = Unit {0}

-- The rows became one batch more, if there were any. No batch was settled.
abbrev pub AddsRows : Seen → Seen → List Row → Type 0
AddsRows old new rows =
    (batch_weight rows ≤ batch_limit)
    × (new.settled ≡ old.settled)
    × ((opened batches : List Batch) → IsHeld opened old batches
    → IsHeld opened new (batches ++ batches_of_rows rows))

-- a group whose lines have these outcomes was loaded
pub record TakesGroup (arrival : Arrival) (body : List ℕ) (group : List Outcome)
    (old new : Seen) : Type 0 where
  pub intake : HaveOutcomes arrival body group
  pub adds : AddsRows old new (rows_read group)

-- why the run stops at a group, where this many lines came before
abbrev pub StopsGroup : Arrival → List ℕ → ℕ → Seen → Seen → Change → Interrupt → Type 0
StopsGroup arrival body before old new errors Unreadable = ⊥
StopsGroup arrival body before old new errors Unwritable =
    (group : List Outcome) × TakesGroup arrival body group old new × IsCut errors [] (refusals_from (before + 1) group)
StopsGroup arrival body before old new errors (Beyond limit) =
    IsUntold errors × RefusesGroup arrival body old (Beyond limit)
StopsGroup arrival body before old new errors (NoAnswer overflow) = ⊥
StopsGroup arrival body before old new errors NoMemory = IsUntold errors

-- The source gave all its input, the batches of its groups are held after the opened ones, and its refused lines are
-- named.
pub record IsLoaded (arrival : Arrival) (opened : List Batch) (source errors : Change) (seen : Seen) : Type 0 where
  pub groups : List (List Outcome)
  pub begins : BeginsWith arrival source groups
  pub all : begins.rest ≡ []
  pub spent : IsSpent source
  pub light : FitBatches groups
  pub holding : IsHeld opened seen (batches_of groups)
  pub named : Took errors (refusals_of groups)

-- Groups were loaded, whose batches are held after the opened ones, and their refused lines named. Then the run
-- stopped, and did not say yet why.
pub record StopsHeld (arrival : Arrival) (opened : List Batch) (source errors : Change) (seen : Seen)
    (stop : model.Stop) : Type 0 where
  pub groups : List (List Outcome)
  pub behind : StopsBehind arrival source groups stop
  pub held : IsHeld opened seen (batches_of groups)
  pub named : Took errors (refusals_of groups)

-- The error stream failed while the refused lines of a group were named. Before the group `old` had been seen, and with
-- its batch `new`. No batch was settled meanwhile.
pub record StopsNaming (arrival : Arrival) (opened : List Batch) (source errors : Change) (old new : Seen)
    : Type 0 where
  pub fault : IsNamingFault arrival source errors
  pub before : IsHeld opened old (batches_of fault.groups)
  pub after : IsHeld opened new (batches_of (fault.groups ++ fault.group ∷ []))
  pub settled : new.settled ≡ old.settled

-- Why the run stops while it loads. Before the group at which it stops `old` had been seen.
abbrev pub StopsHolding : Arrival → List Batch → Change → Change → Seen → Seen → Interrupt → Type 0
StopsHolding arrival opened source errors old new Unreadable =
    StopsHeld arrival opened source errors old model.unreadable
StopsHolding arrival opened source errors old new Unwritable = StopsNaming arrival opened source errors old new
StopsHolding arrival opened source errors old new (Beyond limit) =
    StopsHeld arrival opened source errors old (model.beyond (limit_of limit)) × (limit ≡ Full → IsFull old)
StopsHolding arrival opened source errors old new (NoAnswer overflow) = ⊥
StopsHolding arrival opened source errors old new NoMemory =
    StopsHeld arrival opened source errors old model.no_memory

-- Groups were loaded, whose batches are no more than may be unsettled, and their refused lines named. Then the run
-- stopped, and did not say yet why.
pub record StopsUntold (arrival : Arrival) (source errors : Change) (stop : model.Stop) : Type 0 where
  pub groups : List (List Outcome)
  pub behind : StopsBehind arrival source groups stop
  pub unsettled : FitUnsettled groups
  pub named : Took errors (refusals_of groups)

-- why the run stops while it loads
abbrev pub StopsLoad : Arrival → Change → Change → Interrupt → Type 0
StopsLoad arrival source errors Unreadable = StopsUntold arrival source errors model.unreadable
StopsLoad arrival source errors Unwritable =
    (fault : IsNamingFault arrival source errors) × FitUnsettled (fault.groups ++ fault.group ∷ [])
StopsLoad arrival source errors (Beyond limit) = StopsUntold arrival source errors (model.beyond (limit_of limit))
StopsLoad arrival source errors (NoAnswer overflow) = ⊥
StopsLoad arrival source errors NoMemory = StopsUntold arrival source errors model.no_memory

-- ---- groups that are read ahead

abbrev pub AreWhole : List (List Outcome) → Type 0
AreWhole groups = AllByRecursion (λ group. length group ≡ 1000) groups

-- A run over an input, after it read groups, and before it loads them.
pub record Run : Type 0 where
  pub arrival : Arrival
  -- the batches before the run
  pub opened : List Batch
  pub source : Change
  -- the error stream before the run
  pub written : Option (List ℕ)
  pub faults : ℕ
  -- where the groups end
  pub place : ℕ
  -- what was read after them
  pub tail : List ℕ
  -- whether the source ended
  pub ended : Bool

-- All groups so far are whole, so another one may come. They have this many lines.
pub record AreOpen (taken : List ℕ) (groups : List (List Outcome)) (lines : ℕ) : Type 0 where
  pub ends : EndsLine taken
  pub whole : AreWhole groups
  pub counted : lines ≡ length (outcomes_in groups)

-- Groups were loaded, and their refused lines named. The groups of these bodies come next.
pub record IsUnderWay (run : Run) (bodies : List (List ℕ)) (written : Option (List ℕ)) (faults : ℕ) (seen : Seen)
    (lines : ℕ) : Type 0 where
  pub taken : List ℕ
  pub groups : List (List Outcome)
  -- in how many further groups the tail lies
  pub behind : ℕ
  pub gave : Gave run.source (taken ++ (joined bodies ++ run.tail))
  pub placed : length taken + length (joined bodies) ≡ run.place
  pub within : run.place ≤ input_limit
  pub are : AreBodies run.ended bodies run.tail
  pub few : length bodies + behind ≤ 8
  pub tail_few : AreBehind behind run.tail
  pub given : HaveOutcomes run.arrival taken (outcomes_in groups)
  pub grouped : AreGroups groups ((joined bodies ++ run.tail ≡ []) × IsSpent run.source)
  pub stage : AreOpen taken groups lines ⊎ ((joined bodies ++ run.tail ≡ []) × (run.ended ≡ true))
  pub spent : run.ended ≡ true → IsSpent run.source
  pub few_lines : lines ≤ length taken + 1000
  pub light : FitBatches groups
  pub held : IsHeld run.opened seen (batches_of groups)
  pub named : Appends run.written written (refusals_of groups)
  pub stays : run.faults ≤ faults

-- the error stream since the run began
abbrev pub errors_of : Run → Option (List ℕ) → ℕ → Change
errors_of run written faults = record {
  bytes_before = run.written;
  bytes_after = written;
  faults_before = run.faults;
  faults_after = faults;
}
