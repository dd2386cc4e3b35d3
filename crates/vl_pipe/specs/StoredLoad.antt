-- How a load into the store of a vault ends, and what a crash leaves of it.
use Rattle.std.specs.Prelude.{◌≡◌, ◌≢◌, ◌⊎◌, ℕ, ◌+◌, ◌-◌, ◌≤◌, List, [], ◌∷◌, ◌++◌, length, drop, codes}
use Rattle.std.specs.List.{AllByRecursion}
use Rattle.vl_io.specs.Change.{Change, IsCut, IsSpent, IsTold, IsUntold, Took}
use Rattle.vl_io.specs.Faults.{Rose}
use Rattle.log_model.specs.Row.{Batch}
use Rattle.day_model.specs.Days.{DayRows}
use Rattle.vl_vault.specs.Disk.{Past}
use Rattle.vl_vault.specs.Moments.{Always, EachImage}
use Rattle.part_store.specs.Finds.{FindsParts}
use Rattle.part_store.specs.State as stores
use Rattle.part_store.specs.State.{StoreState}
use Rattle.log_desk.specs.Keeping.{HoldsFront, IsMerge}
use Rattle.ingest_row.specs.Intake.{Outcome}
use Rattle.lone_desk.specs.Alone.{last_number}
use Rattle.vl_open.specs.Opening.{TellsReopening, vault_fault_text}
use Rattle.vl_status.specs.Status.{no_memory_text}
use Rattle.vl_status.specs.declared.status.Status.{Status}
use Rattle.vl_status.specs.declared.status.Status.TheVariants as statuses
use Rattle.vl_pipe.specs.Ended.{IsNamingFault}
use Rattle.vl_pipe.specs.Flushing.{FindsLoaded, FindsReached, flush_line, flush_lines, flush_text, flush_text_so_far}
use Rattle.vl_pipe.specs.Groups.{Arrival, BeginsWith, FitBatches, batches_of, refusals_of}
use Rattle.vl_pipe.specs.Opened.{IsOpened}
use Rattle.vl_pipe.specs.Pipe.{IsUnread}
use Rattle.vl_pipe.specs.Program as model
use Rattle.vl_pipe.specs.Program.{AreFew, IsCause, stop_text}
use Rattle.vl_pipe.specs.VaultChange.{VaultChange}

-- The first groups of the input were loaded. No more was read after them than eight groups and what one read gives.
pub record HasLoaded (arrival : Arrival) (source : Change) : Type 0 where
  pub groups : List (List Outcome)
  pub begins : BeginsWith arrival source groups
  pub light : FitBatches groups
  pub few : AreFew 8 begins.rest

-- the batches of these groups
abbrev pub made : {arrival : Arrival} {source : Change} → HasLoaded arrival source → List Batch
made loaded = batches_of loaded.groups

-- The source gave all its input, which was loaded over so many batches. `Says` is what the error stream took, where the
-- names of the refused lines were to come first. The output took a line for each sixteen batches, and one for the last.
pub record LoadsAll (arrival : Arrival) (first : ℕ) (source output : Change) (Says : List ℕ → Type 0) : Type 0 where
  pub loaded : HasLoaded arrival source
  pub all : loaded.begins.rest ≡ []
  pub spent : IsSpent source
  pub said : Says (refusals_of loaded.groups)
  pub flushed : Took output (flush_text first (length (made loaded)))

-- The run stopped for this cause, after it had loaded groups. The output took a line for each sixteen batches.
pub record StopsReading (arrival : Arrival) (first : ℕ) (source output : Change) (Says : List ℕ → Type 0)
    (stop : model.Stop) : Type 0 where
  pub loaded : HasLoaded arrival source
  pub cause : IsCause arrival source loaded.groups loaded.begins stop
  pub said : Says (refusals_of loaded.groups)
  pub flushed : Took output (flush_text_so_far first (length (made loaded)))

-- The error stream failed while the refused lines of a group were named. The output has the lines of the groups before
-- it.
pub record StopsNames (arrival : Arrival) (first : ℕ) (source output errors : Change) : Type 0 where
  pub fault : IsNamingFault arrival source errors
  pub flushed : Took output (flush_text_so_far first (length (batches_of fault.groups)))

-- The run stopped while all its batches were written to the vault, or the line was written that says so. `Flushes` is
-- what the output took, by the lines before that and that line.
pub record StopsFlush (arrival : Arrival) (first : ℕ) (source : Change) (Says : List ℕ → Type 0)
    (Flushes : List ℕ → List ℕ → Type 0) : Type 0 where
  pub loaded : HasLoaded arrival source
  pub said : Says (refusals_of loaded.groups)
  pub flushed :
      Flushes (flush_text_so_far first (length (made loaded) - 1)) (flush_line (first + length (made loaded)))

-- The output took the lines before that.
abbrev pub TookBefore : Change → List ℕ → List ℕ → Type 0
TookBefore output lines line = Took output lines

-- The store of the vault holds the first of these batches, and has no number for another list or for the parts that the
-- others need, or its list would be too long.
pub record IsSpentStore (told : Type 0) (batches : List Batch) (now : Past) : Type 0 where
  -- its vault does not matter here
  pub store : StoreState (Unit {0})
  pub files : List ℕ
  pub parts : List DayRows
  pub holds : HoldsFront store batches
  pub merge : IsMerge store (drop store.front batches) files parts
  pub spent : stores.IsSpent files parts store
  pub finds : told → EachImage (FindsParts store.front store.parts) now

-- There is no number for another batch of a desk that has these, or for another list of its store.
abbrev pub StopsSpent : Type 0 → Arrival → List Batch → Change → Change → (List ℕ → Type 0) → Past → Type 0
StopsSpent told arrival held source output Says now =
    ((stops : StopsReading arrival (length held) source output Says model.no_memory)
    × (last_number ≤ length (held ++ made stops.loaded)))
    ⊎ ((stops : StopsFlush arrival (length held) source Says (TookBefore output))
    × IsSpentStore told (held ++ made stops.loaded) now)

abbrev pub spent_text : List ℕ
spent_text = codes "spent" ++ 10 ∷ []

-- ---- the command

-- how lines come in, and what is done to each object
pub record LoadRun : Type 0 where
  pub arrival : Arrival
  pub source : Change
  pub vault : VaultChange
  pub output : Change
  pub errors : Change

-- what the error stream took: the names, and then this text
abbrev pub Says : LoadRun → List ℕ → List ℕ → Type 0
Says run text names = IsTold run.errors names text

-- so, over the batches that the vault had
abbrev pub OverOpened : Type 0 → LoadRun → (List Batch → Type 0) → Type 0
OverOpened told run Ends = (held : List Batch) × IsOpened told run.vault.before held × Ends held

abbrev pub StopsBy : LoadRun → List Batch → model.Stop → Type 0
StopsBy run held stop =
    StopsReading run.arrival (length held) run.source run.output (Says run (stop_text stop)) stop

-- The store was not opened, which is said. Nothing was read, and nothing was written to the output.
abbrev pub IsNotOpened : Type 0 → LoadRun → Status → Type 0
IsNotOpened told run status =
    TellsReopening told run.vault.before run.vault.faults_before run.vault.faults_after run.errors status
    × IsUnread run.source × IsUntold run.output

-- how a load ends, by its status
abbrev pub EndsLoad : Type 0 → LoadRun → Status → Type 0
EndsLoad told run statuses.Done = OverOpened told run (λ held.
    LoadsAll run.arrival (length held) run.source run.output (Took run.errors))
EndsLoad told run statuses.ReadFault = OverOpened told run (λ held. StopsBy run held model.unreadable)
EndsLoad told run statuses.WriteFault = OverOpened told run (λ held.
    StopsNames run.arrival (length held) run.source run.output run.errors
    ⊎ StopsFlush run.arrival (length held) run.source (Took run.errors) (IsCut run.output))
EndsLoad told run statuses.Limit = OverOpened told run (λ held.
    ((limit : model.Limit) × (limit ≢ model.full) × StopsBy run held (model.beyond limit))
    ⊎ StopsSpent told run.arrival held run.source run.output (Says run spent_text) run.vault.after)
EndsLoad told run statuses.VaultFault =
    IsNotOpened told run statuses.VaultFault
    ⊎ OverOpened told run (λ held. Rose run.vault.faults_before run.vault.faults_after
    × StopsFlush run.arrival (length held) run.source (Says run vault_fault_text) (TookBefore run.output))
EndsLoad told run statuses.Damaged = IsNotOpened told run statuses.Damaged
EndsLoad told run statuses.NoMemory =
    IsNotOpened told run statuses.NoMemory
    ⊎ OverOpened told run (λ held. StopsBy run held model.no_memory
    ⊎ StopsFlush run.arrival (length held) run.source (Says run no_memory_text) (TookBefore run.output))
EndsLoad told run status = ⊥

-- The output took the lines of these counts, and perhaps a proper prefix of another line.
abbrev pub HasLines : Change → List ℕ → Type 0
HasLines output counts =
    Took output (flush_lines counts) ⊎ ((count : ℕ) × IsCut output (flush_lines counts) (flush_line count))

-- At every moment of the run each image finds the batches that were held, and then some of the first that groups of the
-- input make. At its end each finds as many batches as each whole line says that was written.
pub record LoadSurvives (held : List Batch) (run : LoadRun) : Type 0 where
  pub groups : List (List Outcome)
  pub begins : BeginsWith run.arrival run.source groups
  pub light : FitBatches groups
  pub moments : Always (EachImage (FindsLoaded held (batches_of groups))) run.vault.before run.vault.after
  pub counts : List ℕ
  pub lines : HasLines run.output counts
  pub reached : AllByRecursion (λ count.
      EachImage (FindsReached held (batches_of groups) count) run.vault.after) counts
