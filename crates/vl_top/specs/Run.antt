-- What one run of the program does to the objects of the outside.
use Rattle.std.specs.Prelude.{◌≡◌, ◌⊎◌, ℕ, ◌++◌, ◌∷◌, List, [], Option}
use Rattle.log_model.specs.Row.{Batch}
use Rattle.part_store.specs.Finds.{Finds}
use Rattle.vl_io.specs.Change.{Change, HasFailed, IsTold, IsUntold}
use Rattle.vl_io.specs.Moments.{FirstTold}
use Rattle.vl_pipe.specs.Question.{Question}
use Rattle.vl_pipe.specs.Query.{IsQueryText}
use Rattle.vl_pipe.specs.Asked.{IsNoReadableQuery, IsReadableQuery}
use Rattle.command_line.specs.Asked.{IsCommand}
use Rattle.command_line.specs.Faults.{fault_text}
use Rattle.command_line.specs.declared.command.Command.{Command}
use Rattle.command_line.specs.declared.fault.UsageFault.TheVariants as faults
use Rattle.vl_pipe.specs.Ended.{IsAnswerCut, IsAnswered, IsNamingCut, IsStopped, IsUnanswered}
use Rattle.vl_pipe.specs.Groups.{Arrival, arrival_at}
use Rattle.vl_pipe.specs.Pipe.{IsPiped, IsUnread, PipeRun}
use Rattle.vl_pipe.specs.Program.{IsRefusedText, Limit, Refusal, Stop, beyond, no_memory, refusal_text, said_of_query}
use Rattle.vl_pipe.specs.Program.{unreadable}
use Rattle.vl_status.specs.Status.{no_memory_text}
use Rattle.vl_status.specs.Status.{status_number}
use Rattle.vl_status.specs.declared.status.Status.{Status}
use Rattle.vl_status.specs.declared.status.Status.TheVariants.{Done, Limit as AtLimit, NoMemory}
use Rattle.vl_status.specs.declared.status.Status.TheVariants.{QueryRefused, ReadFault, Usage, WriteFault}
use Rattle.vl_pipe.specs.VaultChange.{VaultChange}
use Rattle.vl_pipe.specs.Stored.{IsQueried, QueryRun}
use Rattle.vl_pipe.specs.StoredLoad.{EndsLoad, LoadRun, LoadSurvives}
use Rattle.vl_serve.specs.Doors.{DoorChange}
use Rattle.vl_serve.specs.Keeping.{FindsOnward}
use Rattle.vl_top.specs.Server.{EndsServer, HasFailedDoor}
use Rattle.vl_top.specs.Vault.{AtEachMoment, HasBatches, HasVault}
use Rattle.vl_top.specs.Task.{LoadWords, PipeWords, QueryWords, Task, asks, loads, pipes, serves, task_of, tries}
use Rattle.vl_top.specs.Trial.{EndsTrial}

-- what is done to each object of the outside, and what the clock gave before and after
pub record Effects : Type 0 where
  pub source : Change
  pub output : Change
  pub errors : Change
  pub vault : VaultChange
  pub doors : List DoorChange
  pub moments_before : Option (List ℕ)
  pub moments_after : Option (List ℕ)

-- a run: what the words are, what it does, and the status
pub record Run : Type 0 where
  pub words : List (List ℕ)
  pub does : Effects
  pub status : ℕ

abbrev pub usage_text : List ℕ
usage_text = fault_text faults.Usage ++ 10 ∷ []

-- ---- tasks

-- the words are a command, and of its task this holds
abbrev pub ForTask : List (List ℕ) → (Task → Type 0) → Type 0
ForTask words holds = (command : Command) × IsCommand words command × holds (task_of command)

-- the words are not a command
abbrev pub IsNoCommand : List (List ℕ) → Type 0
IsNoCommand words = (command : Command) → IsCommand words command → ⊥

-- the task is a query over the input that can be asked
abbrev pub IsPipe : Task → Type 0
IsPipe (pipes words) = IsReadableQuery words.query
IsPipe task = ⊥

-- the task is a query over a vault that can be asked
abbrev pub IsQuery : Task → Type 0
IsQuery (asks words) = IsReadableQuery words.query
IsQuery task = ⊥

-- the task is a query that cannot be asked
abbrev pub CannotBeAsked : Task → Type 0
CannotBeAsked (pipes words) = IsNoReadableQuery words.query
CannotBeAsked (asks words) = IsNoReadableQuery words.query
CannotBeAsked task = ⊥

abbrev pub IsTrial : Task → Type 0
IsTrial (tries words) = Unit {0}
IsTrial task = ⊥

abbrev pub IsLoad : Task → Type 0
IsLoad (loads words) = Unit {0}
IsLoad task = ⊥

abbrev pub IsServe : Task → Type 0
IsServe (serves words) = Unit {0}
IsServe task = ⊥

-- the task reads the input
abbrev pub IsReading : Task → Type 0
IsReading (pipes words) = IsReadableQuery words.query
IsReading (loads words) = Unit {0}
IsReading task = ⊥

-- the task is over a vault
abbrev pub IsKept : Task → Type 0
IsKept (loads words) = Unit {0}
IsKept (asks words) = IsReadableQuery words.query
IsKept (serves words) = Unit {0}
IsKept task = ⊥

-- the words have the input read
abbrev pub Reads : List (List ℕ) → Type 0
Reads words = ForTask words IsReading

-- the words have the input added to the vault
abbrev pub Loads : List (List ℕ) → Type 0
Loads words = ForTask words IsLoad

-- the words have the vault used
abbrev pub Keeps : List (List ℕ) → Type 0
Keeps words = ForTask words IsKept

-- the words have the doors served
abbrev pub Serves : List (List ℕ) → Type 0
Serves words = ForTask words IsServe

-- ---- how a task ends

-- The clock's first reading was `now`, and for it this holds.
abbrev pub ForMoment : Effects → (ℕ → Type 0) → Type 0
ForMoment does holds = (now : ℕ) × FirstTold does.moments_before does.moments_after now × holds now

-- The text is that of a query, the clock's first reading was `now`, and for them this holds.
pub record ForQuery (does : Effects) (text : List ℕ) (holds : Question → ℕ → Type 0) : Type 0 where
  pub query : Question
  pub spelled : IsQueryText text query
  pub now : ℕ
  pub first : FirstTold does.moments_before does.moments_after now
  pub facts : holds query now

-- what `pipe` is asked at this moment, and what it does
abbrev pub pipe_run : Effects → PipeWords → ℕ → PipeRun
pipe_run does words now = record {
  asked = record { arrival = arrival_at words.stream_fields now; query = words.query };
  source = does.source;
  output = does.output;
  errors = does.errors;
}

-- what a query with this text is asked at this moment, and what it does
abbrev pub query_of : Effects → List ℕ → ℕ → QueryRun
query_of does text now =
    record { text = text; now = now; vault = does.vault; output = does.output; errors = does.errors }

-- so, of `query`
abbrev pub query_run : Effects → QueryWords → ℕ → QueryRun
query_run does words now = query_of does words.query now

-- how the lines of `load` come in, and what it does
abbrev pub load_of : Effects → Arrival → LoadRun
load_of does arrival = record {
  arrival = arrival;
  source = does.source;
  vault = does.vault;
  output = does.output;
  errors = does.errors;
}

-- so, at this moment
abbrev pub load_run : Effects → LoadWords → ℕ → LoadRun
load_run does words now = load_of does (arrival_at words.stream_fields now)

module _ (told : Type 0) where
  -- how `query` ends, by its status
  abbrev pub EndsQuery : Effects → QueryWords → Status → Type 0
  EndsQuery does words status =
      IsUnread does.source × ForMoment does (λ now. IsQueried told (query_run does words now) status)

  -- how `load` ends, by its status
  abbrev pub EndsLoading : Effects → LoadWords → Status → Type 0
  EndsLoading does words status = ForMoment does (λ now. EndsLoad told (load_run does words now) status)

  -- how `serve` ends, by its status
  abbrev pub EndsServing : Effects → Status → Type 0
  EndsServing does status =
      IsUnread does.source × IsUntold does.output × EndsServer told does.errors does.vault does.doors status

  -- how a task ends, by its status
  abbrev pub EndsTask : Effects → Task → Status → Type 0
  EndsTask does (pipes words) status = ForMoment does (λ now. IsPiped (pipe_run does words now) status)
  EndsTask does (loads words) status = EndsLoading does words status
  EndsTask does (asks words) status = EndsQuery does words status
  EndsTask does (tries words) status =
      IsUnread does.source × ForMoment does (λ now. EndsTrial words.seed words.rows now does.output does.errors status)
  EndsTask does (serves words) status = EndsServing does status

  -- ---- the result of a task

  -- all that the task is was done
  abbrev pub IsDone : Effects → Task → Type 0
  IsDone does (pipes words) =
      ForQuery does words.query
      (λ query now. IsAnswered query (arrival_at words.stream_fields now) does.source does.output does.errors)
  IsDone does task = EndsTask does task Done

  -- what is to be written was written only up to some place
  abbrev pub IsCutShort : Effects → Task → Type 0
  IsCutShort does (pipes words) =
      ForQuery does words.query
      (λ query now. IsAnswerCut query (arrival_at words.stream_fields now) does.source does.output does.errors
      ⊎ IsNamingCut (arrival_at words.stream_fields now) does.source does.output does.errors)
  IsCutShort does task = EndsTask does task WriteFault

  -- a query over the input stopped for this cause
  abbrev pub HasStopped : Effects → Stop → PipeWords → Type 0
  HasStopped does stop words =
      ForQuery does words.query
      (λ query now. IsStopped (arrival_at words.stream_fields now) does.source does.errors stop)

  -- the source failed
  abbrev pub IsUnreadable : Effects → Task → Type 0
  IsUnreadable does (pipes words) = HasStopped does unreadable words
  IsUnreadable does task = EndsTask does task ReadFault

  -- a limit is met
  abbrev pub IsAtLimit : Effects → Task → Type 0
  IsAtLimit does (pipes words) = (limit : Limit) × HasStopped does (beyond limit) words
  IsAtLimit does task = EndsTask does task AtLimit

  -- memory ran out
  abbrev pub IsOutOfMemory : Effects → Task → Type 0
  IsOutOfMemory does (pipes words) = HasStopped does no_memory words
  IsOutOfMemory does task = EndsTask does task NoMemory

  -- the query was refused before anything is read, for this cause, which is said
  abbrev pub IsRefused : Effects → Refusal → Task → Type 0
  IsRefused does refusal (pipes words) =
      IsRefusedText words.query refusal × IsUnread does.source
      × IsTold does.errors [] (said_of_query (refusal_text refusal))
  IsRefused does refusal task = ⊥

  -- The evaluation of the query overflows. A query over a vault may be refused instead, before the vault is used.
  abbrev pub HasNoAnswer : Effects → Task → Type 0
  HasNoAnswer does (pipes words) =
      ForQuery does words.query
      (λ query now. IsUnanswered query (arrival_at words.stream_fields now) does.source does.errors)
  HasNoAnswer does task = EndsTask does task QueryRefused

  -- memory ran out, and nothing was read
  abbrev pub IsUnstarted : Effects → Type 0
  IsUnstarted does = IsUnread does.source × IsTold does.errors [] no_memory_text

  -- What each status says.
  abbrev pub Says : Run → Status → Type 0
  -- A query has its answer, which is the naive evaluation over the batches that the input is, or that the vault has. A
  -- load has read its input, and its batches are in the vault. A trial has the lines of its queries. The doors of a
  -- server have no visit left.
  Says run Done = ForTask run.words (IsDone run.does)
  -- The query is refused before anything is read, or its evaluation overflows.
  Says run QueryRefused =
      ((refusal : Refusal) × ForTask run.words (IsRefused run.does refusal))
      ⊎ ForTask run.words (HasNoAnswer run.does)
  Says run Usage = IsNoCommand run.words × IsTold run.does.errors [] usage_text
  Says run ReadFault = ForTask run.words (IsUnreadable run.does)
  Says run WriteFault = ForTask run.words (IsCutShort run.does)
  Says run AtLimit = ForTask run.words (IsAtLimit run.does)
  Says run NoMemory = IsUnstarted run.does ⊎ ForTask run.words (IsOutOfMemory run.does)
  -- The vault failed, or has no batches that can be read, or a door failed.
  Says run status = ForTask run.words (λ task. EndsTask run.does task status)

  -- The status of a query over the input where nothing fails: it is answered, or overflows, or the input is beyond a
  -- limit, or memory runs out.
  abbrev pub GoesWell : Run → Status → Type 0
  GoesWell run Done = Unit {0}
  GoesWell run QueryRefused = ForTask run.words (HasNoAnswer run.does)
  GoesWell run AtLimit = Unit {0}
  GoesWell run NoMemory = Unit {0}
  GoesWell run status = ⊥

-- ---- what a crash leaves

-- What each image finds at every moment, where it found these batches before.
abbrev pub Outlives : Effects → List Batch → Task → Type 0
Outlives does held (loads words) = ForMoment does (λ now. LoadSurvives held (load_run does words now))
Outlives does held (serves words) = AtEachMoment does.vault (FindsOnward held)
Outlives does held task = AtEachMoment does.vault (Finds held)

-- ---- a run

-- What the status says is so. `NoMemory` may always be returned.
pub record IsRun (told : Type 0) (run : Run) : Type 0 where
  pub status : Status
  pub number : run.status ≡ status_number status
  pub says : Says told run status
  pub unusable : IsNoCommand run.words → (status ≡ Usage) ⊎ (status ≡ NoMemory)
  pub unasked : ForTask run.words CannotBeAsked → (status ≡ QueryRefused) ⊎ (status ≡ NoMemory)
  -- Where nothing fails, a query over the input has its answer, or one of four other outcomes.
  pub query : ForTask run.words IsPipe → ¬ HasFailed run.does.source → ¬ HasFailed run.does.output
      → ¬ HasFailed run.does.errors → GoesWell told run status
  -- Where nothing fails, a query over a vault has its answer, or overflows, or memory runs out.
  pub stored : ForTask run.words IsQuery → ¬ HasFailed run.does.output → HasVault told run.does.vault
      → (status ≡ Done) ⊎ (status ≡ QueryRefused) ⊎ (status ≡ NoMemory)
  -- Where nothing fails, a load reads its input to the end, or it is beyond a limit, or memory runs out.
  pub load : ForTask run.words IsLoad → ¬ HasFailed run.does.source → ¬ HasFailed run.does.output
      → ¬ HasFailed run.does.errors → HasVault told run.does.vault
      → (status ≡ Done) ⊎ (status ≡ AtLimit) ⊎ (status ≡ NoMemory)
  -- Where nothing fails, a trial and a server do all that they are to do, or memory runs out, or the vault is spent.
  pub trial : ForTask run.words IsTrial → ¬ HasFailed run.does.output → (status ≡ Done) ⊎ (status ≡ NoMemory)
  pub server : ForTask run.words IsServe → ¬ HasFailedDoor run.does.doors → HasVault told run.does.vault
      → (status ≡ Done) ⊎ (status ≡ AtLimit) ⊎ (status ≡ NoMemory)
  -- Each image of a crash finds the batches that the vault had, and after `load` and `serve` perhaps further ones.
  pub crash : told → (held : List Batch) → HasBatches run.does.vault held
      → ForTask run.words (Outlives run.does held) ⊎ (run.does.vault.after ≡ run.does.vault.before)
