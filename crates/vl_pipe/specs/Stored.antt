-- How a query over the batches of a vault ends.
use Rattle.std.specs.Prelude.{◌≡◌, ◌⊎◌, ℕ, ℤ, pos, List, []}
use Rattle.vl_io.specs.Change.{Change, IsCut, IsTold, IsUntold}
use Rattle.log_model.specs.Row.{Batch, Row}
use Rattle.vl_vault.specs.Disk.{Past}
use Rattle.lone_desk.specs.Answer.{FailsOver, IsAnswerOver}
use Rattle.lone_desk.specs.Asked.{IsNoReadableQuery, IsReadableQuery, Refuses}
use Rattle.lone_desk.specs.Query.{IsQueryText, batch_list_rows}
use Rattle.lone_desk.specs.Question.{Question}
use Rattle.lone_desk.specs.QueryRefusal.{QueryRefusal}
use Rattle.lone_desk.specs.QueryRefusal.TheVariants.{Memory}
use Rattle.vl_open.specs.Opening.{TellsReopening}
use Rattle.vl_status.specs.Status.{no_memory_text}
use Rattle.vl_status.specs.declared.status.Status.{Status}
use Rattle.vl_status.specs.declared.status.Status.TheVariants as statuses
use Rattle.vl_pipe.specs.Opened.{IsOpened}
use Rattle.vl_pipe.specs.Pipe.{WritesAnswer}
use Rattle.vl_pipe.specs.Program as model
use Rattle.vl_pipe.specs.Program.{fault_of, overflow_text, said_of_query}
use Rattle.vl_pipe.specs.Refused.{ReportsRefused}
use Rattle.vl_pipe.specs.VaultChange.{IsUncalled, VaultChange}

-- The answer over these rows was written to the output. Or the evaluation over them overflows, which is said. Or the
-- output failed, and took a proper prefix of the answer. Memory may always run out.
abbrev pub EndsAnswer : Question → ℤ → List Row → Change → Change → Status → Type 0
EndsAnswer query now rows output errors statuses.Done = WritesAnswer query now rows output × IsUntold errors
EndsAnswer query now rows output errors statuses.QueryRefused =
    (cause : model.Overflow) × FailsOver query now rows (fault_of cause)
    × IsTold errors [] (said_of_query (overflow_text cause))
EndsAnswer query now rows output errors statuses.WriteFault =
    (lines : List ℕ) × IsAnswerOver query now rows lines × IsCut output [] lines × IsUntold errors
EndsAnswer query now rows output errors statuses.NoMemory = IsTold errors [] no_memory_text
EndsAnswer query now rows output errors status = ⊥

-- The query was asked over batches that the vault had, and ended so.
pub record EndsOver (told : Type 0) (query : Question) (now : ℕ) (before : Past) (output errors : Change)
    (status : Status) : Type 0 where
  pub batches : List Batch
  pub opened : IsOpened told before batches
  pub ends : EndsAnswer query (pos now) (batch_list_rows batches) output errors status

-- how a query that can be asked ends, by its status
abbrev pub EndsQuery : Type 0 → Question → ℕ → VaultChange → Change → Change → Status → Type 0
EndsQuery told query now vault output errors statuses.Done =
    EndsOver told query now vault.before output errors statuses.Done
EndsQuery told query now vault output errors statuses.QueryRefused =
    EndsOver told query now vault.before output errors statuses.QueryRefused
EndsQuery told query now vault output errors statuses.WriteFault =
    EndsOver told query now vault.before output errors statuses.WriteFault
EndsQuery told query now vault output errors statuses.VaultFault =
    TellsReopening told vault.before vault.faults_before vault.faults_after errors statuses.VaultFault
EndsQuery told query now vault output errors statuses.Damaged =
    TellsReopening told vault.before vault.faults_before vault.faults_after errors statuses.Damaged
EndsQuery told query now vault output errors statuses.NoMemory = IsTold errors [] no_memory_text
EndsQuery told query now vault output errors status = ⊥

-- ---- the command

-- what is asked, and what it does to each object
pub record QueryRun : Type 0 where
  pub text : List ℕ
  pub now : ℕ
  pub vault : VaultChange
  pub output : Change
  pub errors : Change

-- The query can be asked, and the run ends so.
pub record EndsReadableQuery (told : Type 0) (run : QueryRun) (status : Status) : Type 0 where
  pub readable : IsReadableQuery run.text
  pub askable : ¬ IsNoReadableQuery run.text
  pub query : Question
  pub spelled : IsQueryText run.text query
  pub ends : EndsQuery told query run.now run.vault run.output run.errors status

-- The query is refused before the vault is opened.
pub record EndsRefusedQuery (run : QueryRun) (status : Status) : Type 0 where
  pub refusal : QueryRefusal
  pub refused : Refuses run.text refusal
  -- one that can be asked is refused only because memory ran out
  pub free : IsReadableQuery run.text → refusal ≡ Memory
  pub uncalled : IsUncalled run.vault
  pub said : ReportsRefused run.errors refusal status

abbrev pub IsQueried : Type 0 → QueryRun → Status → Type 0
IsQueried told run status = EndsReadableQuery told run status ⊎ EndsRefusedQuery run status
