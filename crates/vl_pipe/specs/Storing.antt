-- What a load keeps between its groups, and what it does to the vault.
use Rattle.std.specs.Prelude.{◌≡◌, ◌≢◌, ◌⊎◌, ℕ, ◌+◌, ◌*◌, ◌<◌, ◌≤◌, List, [], ◌++◌, length, drop, Option, None}
use Rattle.std.specs.List.{AllByRecursion}
use Rattle.vl_io.specs.Bytes.{Appends}
use Rattle.vl_io.specs.Change.{Change, IsCut, IsTold, IsUntold, Took}
use Rattle.vl_io.specs.Faults.{Rose}
use Rattle.log_model.specs.History.{batches_in}
use Rattle.log_model.specs.Row.{Batch}
use Rattle.day_model.specs.Days.{DayRows}
use Rattle.vl_vault.specs.Disk.{Past}
use Rattle.vl_vault.specs.Moments.{Always, EachImage}
use Rattle.part_store.specs.Finds.{Finds, FindsParts}
use Rattle.part_store.specs.State as stores
use Rattle.part_store.specs.State.{StoreState}
use Rattle.log_desk.specs.Keeping.{FindsFirst, IsMerge}
use Rattle.ingest_row.specs.Intake.{Outcome}
use Rattle.lone_desk.specs.Alone.{last_number}
use Rattle.lone_desk.specs.Kept.{MayKeepAlone}
use Rattle.lone_desk.specs.Seen.{Seen}
use Rattle.vl_open.specs.Opening.{vault_fault_text}
use Rattle.vl_status.specs.declared.status.Status.{Status}
use Rattle.vl_status.specs.declared.status.Status.TheVariants as statuses
use Rattle.vl_pipe.specs.Flushing.{IsSafe, flush_line, flush_lines, flush_size, round_counts}
use Rattle.vl_pipe.specs.Groups.{Arrival, BeginsWith, FitBatches, batches_of}
use Rattle.vl_pipe.specs.Interrupt.{limit_of}
use Rattle.vl_pipe.specs.Load.{StopsGroup}
use Rattle.vl_pipe.specs.Pipe.{ReportsInterrupt}
use Rattle.vl_pipe.specs.Program as model
use Rattle.vl_pipe.specs.StoredLoad.{HasLines, StopsFlush, StopsNames, StopsReading, StopsSpent, TookBefore}
use Rattle.vl_pipe.specs.StoredLoad.{spent_text}
use Rattle.vl_pipe.specs.VaultChange.{VaultChange}
use Rattle.vl_pipe.specs.declared.interrupt.Limit.TheVariants.{Full}
use Rattle.vl_pipe.specs.declared.interrupt.Interrupt.TheVariants.{Unreadable, Unwritable, Beyond, NoAnswer, NoMemory}
use Rattle.vl_pipe.specs.declared.load_stop.LoadStop.{LoadStop}
use Rattle.vl_pipe.specs.declared.load_stop.LoadStop.TheVariants.{Interrupted, Spent, VaultFault}

-- where a load began: the vault, and the output
pub record Base : Type 0 where
  pub start : Past
  pub faults : ℕ
  pub written : Option (List ℕ)
  pub failed : ℕ

-- Whole rounds were run, and a line was written after each. Sixteen batches at most are not settled, and nothing that
-- was on the vault is lost.
pub record IsStoring {V : Type 0} (told : Type 0) (past : V → Past) (faults : V → ℕ) (opened : List Batch) (base : Base)
    (store : StoreState V) (seen : Seen) (count : ℕ) (written : Option (List ℕ)) (failed : ℕ) : Type 0 where
  pub keeps : MayKeepAlone store seen
  pub on : store.halted ≡ None
  pub settled : seen.settled ≡ store.front
  pub counted : count ≡ length seen.history
  pub rounds : ℕ
  pub whole : store.front ≡ length opened + flush_size * rounds
  pub few : count ≤ store.front + flush_size
  pub safe : IsSafe told (length opened) store.front (batches_in seen.history) base.start (past store.vault)
  pub lines : Appends base.written written (flush_lines (round_counts (length opened) rounds))
  pub stays : base.failed ≤ failed
  pub risen : base.faults ≤ faults store.vault

-- All batches were written to the vault, and then the line that says so.
pub record IsFlushed {V : Type 0} (told : Type 0) (past : V → Past) (faults : V → ℕ) (old new : StoreState V)
    (before after : Seen) (output : Change) : Type 0 where
  pub same : after.history ≡ before.history
  pub keeps : MayKeepAlone new after
  pub on : new.halted ≡ None
  pub front : new.front ≡ length before.history
  pub settled : after.settled ≡ new.front
  pub moments : told → Always
      (EachImage (FindsFirst old.front (length (batches_in before.history)) (batches_in before.history)))
      (past old.vault) (past new.vault)
  pub finds : told → EachImage (Finds (batches_in before.history)) (past new.vault)
  pub risen : faults old.vault ≤ faults new.vault
  pub line : Took output (flush_line (length before.history))
  pub stays : output.faults_before ≤ output.faults_after

-- why the line of this count was not written
abbrev pub StopsLine : ℕ → Change → LoadStop → Type 0
StopsLine count output (Interrupted Unreadable) = ⊥
StopsLine count output (Interrupted Unwritable) = IsCut output [] (flush_line count)
StopsLine count output (Interrupted (Beyond limit)) = ⊥
StopsLine count output (Interrupted (NoAnswer overflow)) = ⊥
StopsLine count output (Interrupted NoMemory) = IsUntold output
StopsLine count output Spent = ⊥
StopsLine count output VaultFault = ⊥

-- why a flush fails
abbrev pub FailsFlush : {V : Type 0} → Type 0 → (V → Past) → (V → ℕ) → StoreState V → StoreState V → List Batch
    → Change → LoadStop → Type 0
FailsFlush told past faults old new batches output (Interrupted Unreadable) = ⊥
FailsFlush told past faults old new batches output (Interrupted Unwritable) =
    IsCut output [] (flush_line (length batches))
FailsFlush told past faults old new batches output (Interrupted (Beyond limit)) = ⊥
FailsFlush told past faults old new batches output (Interrupted (NoAnswer overflow)) = ⊥
FailsFlush told past faults old new batches output (Interrupted NoMemory) = IsUntold output
FailsFlush told past faults old new batches output Spent = IsUntold output × (new ≡ old)
    × (files : List ℕ) × (parts : List DayRows) × IsMerge old (drop old.front batches) files parts
    × stores.IsSpent files parts old × (told → EachImage (FindsParts old.front old.parts) (past old.vault))
FailsFlush told past faults old new batches output VaultFault =
    IsUntold output × Rose (faults old.vault) (faults new.vault)

-- Some batches were not settled, and not all were written to the vault, or not the line. What was on the vault is not
-- lost.
pub record StopsFlushing {V : Type 0} (told : Type 0) (past : V → Past) (faults : V → ℕ) (old new : StoreState V)
    (batches : List Batch) (output : Change) (stop : LoadStop) : Type 0 where
  pub some : old.front < length batches
  pub moments : told → Always (EachImage (FindsFirst old.front (length batches) batches)) (past old.vault)
      (past new.vault)
  pub risen : faults old.vault ≤ faults new.vault
  pub stays : output.faults_before ≤ output.faults_after
  pub why : FailsFlush told past faults old new batches output stop

-- why a group was not inserted, or its refused lines were not named
abbrev pub StopsInsert : Arrival → List ℕ → ℕ → Seen → Seen → Change → LoadStop → Type 0
StopsInsert arrival body lines_before old new errors (Interrupted interrupt) =
    StopsGroup arrival body lines_before old new errors interrupt
StopsInsert arrival body lines_before old new errors Spent =
    IsUntold errors × (last_number ≤ length old.history)
StopsInsert arrival body lines_before old new errors VaultFault = ⊥

-- Why a load stops, before that is said.
abbrev pub StopsStored : Type 0 → Arrival → List Batch → Change → Change → Change → VaultChange → LoadStop → Type 0
StopsStored told arrival held source output errors vault (Interrupted Unreadable) =
    StopsReading arrival (length held) source output (Took errors) model.unreadable
StopsStored told arrival held source output errors vault (Interrupted Unwritable) =
    StopsNames arrival (length held) source output errors
    ⊎ StopsFlush arrival (length held) source (Took errors) (IsCut output)
StopsStored told arrival held source output errors vault (Interrupted (Beyond limit)) =
    (limit ≢ Full) × StopsReading arrival (length held) source output (Took errors) (model.beyond (limit_of limit))
StopsStored told arrival held source output errors vault (Interrupted (NoAnswer overflow)) = ⊥
StopsStored told arrival held source output errors vault (Interrupted NoMemory) =
    StopsReading arrival (length held) source output (Took errors) model.no_memory
    ⊎ StopsFlush arrival (length held) source (Took errors) (TookBefore output)
StopsStored told arrival held source output errors vault Spent =
    StopsSpent told arrival held source output (Took errors) vault.after
StopsStored told arrival held source output errors vault VaultFault =
    Rose vault.faults_before vault.faults_after
    × StopsFlush arrival (length held) source (Took errors) (TookBefore output)

-- Whatever came of the load: at every moment each image found the batches that were held and then some of those that
-- groups of the input make, and now each finds as many as each whole line says.
pub record LoadsSafely (told : Type 0) (arrival : Arrival) (opened : List Batch) (source output : Change)
    (start now : Past) : Type 0 where
  pub groups : List (List Outcome)
  pub begins : BeginsWith arrival source groups
  pub light : FitBatches groups
  pub reached : ℕ
  pub from : length opened ≤ reached
  pub safe : IsSafe told (length opened) reached (opened ++ batches_of groups) start now
  pub counts : List ℕ
  pub within : AllByRecursion (λ count. count ≤ reached) counts
  pub lines : HasLines output counts

-- the output since the load began
abbrev pub output_since : Base → Option (List ℕ) → ℕ → Change
output_since base written failed = record {
  bytes_before = base.written;
  bytes_after = written;
  faults_before = base.failed;
  faults_after = failed;
}

-- the vault since the load began
abbrev pub vault_since : {V : Type 0} → (V → Past) → (V → ℕ) → Base → V → VaultChange
vault_since past faults base vault = record {
  before = base.start;
  after = past vault;
  faults_before = base.faults;
  faults_after = faults vault;
}

-- The load stopped, and left this store and this output.
pub record HasStopped {V : Type 0} (told : Type 0) (past : V → Past) (faults : V → ℕ) (arrival : Arrival)
    (opened : List Batch) (source errors : Change) (base : Base) (store : StoreState V) (written : Option (List ℕ))
    (failed : ℕ) (stop : LoadStop) : Type 0 where
  pub stops : StopsStored told arrival opened source (output_since base written failed) errors
      (vault_since past faults base store.vault) stop
  pub safely : LoadsSafely told arrival opened source (output_since base written failed) base.start (past store.vault)
  pub risen : base.faults ≤ faults store.vault

-- why a load stops, once it is said
abbrev pub ReportsStop : Change → LoadStop → Status → Type 0
ReportsStop errors (Interrupted interrupt) status = ReportsInterrupt errors interrupt status
ReportsStop errors Spent status = (status ≡ statuses.Limit) × IsTold errors [] spent_text
ReportsStop errors VaultFault status = (status ≡ statuses.VaultFault) × IsTold errors [] vault_fault_text
