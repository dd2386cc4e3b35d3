-- How a query ends.
use Rattle.std.specs.Prelude.{◌≡◌, ◌⊎◌, ℕ, ℤ, List, []}
use Rattle.vl_io.specs.Change.{Change, IsCut, IsTold, IsUntold, Took}
use Rattle.log_model.specs.Row.{Row}
use Rattle.lone_desk.specs.Answer.{FailsOver, IsAnswerOver}
use Rattle.lone_desk.specs.Question.{Question}
use Rattle.lone_desk.specs.Query.{IsQueryText}
use Rattle.lone_desk.specs.Asked.{IsNoReadableQuery, IsReadableQuery, Refuses}
use Rattle.lone_desk.specs.QueryRefusal.{QueryRefusal}
use Rattle.lone_desk.specs.QueryRefusal.TheVariants.{Memory}
use Rattle.vl_pipe.specs.Groups.{Arrival}
use Rattle.vl_pipe.specs.declared.pipe.Pipe.{Pipe}
use Rattle.vl_pipe.specs.Program as model
use Rattle.vl_pipe.specs.Program.{fault_of, overflow_text, said_of_query, stop_text}
use Rattle.vl_pipe.specs.Refused.{ReportsRefused}
use Rattle.vl_pipe.specs.Interrupt.{limit_of, overflow_of}
use Rattle.vl_pipe.specs.Ended.{IsAnswerCut, IsAnswered, IsNamingCut, IsStopped, IsUnanswered}
use Rattle.vl_status.specs.declared.status.Status.{Status}
use Rattle.vl_status.specs.declared.status.Status.TheVariants as statuses
use Rattle.vl_pipe.specs.declared.interrupt.Interrupt.{Interrupt}
use Rattle.vl_pipe.specs.declared.interrupt.Interrupt.TheVariants.{Unreadable, Unwritable, Beyond, NoAnswer, NoMemory}

-- The answer to the query over these rows was written.
abbrev pub WritesAnswer : Question → ℤ → List Row → Change → Type 0
WritesAnswer query now rows output = (lines : List ℕ) × IsAnswerOver query now rows lines × Took output lines

-- It was not, for this reason. `Memory` may always be returned.
abbrev pub StopsAnswer : Question → ℤ → List Row → Change → Interrupt → Type 0
StopsAnswer query now rows output Unreadable = ⊥
StopsAnswer query now rows output Unwritable =
    (lines : List ℕ) × IsAnswerOver query now rows lines × IsCut output [] lines
StopsAnswer query now rows output (Beyond limit) = ⊥
StopsAnswer query now rows output (NoAnswer overflow) = FailsOver query now rows (fault_of (overflow_of overflow))
StopsAnswer query now rows output NoMemory = Unit {0}

-- The error text of an interrupt, and its status. A stream that can't be written to has no text.
abbrev pub ReportsInterrupt : Change → Interrupt → Status → Type 0
ReportsInterrupt errors Unwritable status =
    (status ≡ statuses.WriteFault) × IsUntold errors
    × (errors.faults_after ≡ errors.faults_before)
ReportsInterrupt errors Unreadable status =
    (status ≡ statuses.ReadFault) × IsTold errors [] (stop_text model.unreadable)
ReportsInterrupt errors (Beyond limit) status =
    ((status ≡ statuses.Limit) × IsTold errors [] (stop_text (model.beyond (limit_of limit))))
    ⊎ ((status ≡ statuses.NoMemory) × IsTold errors [] (stop_text model.no_memory))
ReportsInterrupt errors (NoAnswer overflow) status =
    ((status ≡ statuses.QueryRefused) × IsTold errors [] (said_of_query (overflow_text (overflow_of overflow))))
    ⊎ ((status ≡ statuses.NoMemory) × IsTold errors [] (stop_text model.no_memory))
ReportsInterrupt errors NoMemory status = (status ≡ statuses.NoMemory) × IsTold errors [] (stop_text model.no_memory)

-- how a query ends, by its status
abbrev pub EndsPipe : Question → Arrival → Change → Change → Change → Status → Type 0
EndsPipe query arrival source output errors statuses.Done = IsAnswered query arrival source output errors
EndsPipe query arrival source output errors statuses.QueryRefused = IsUnanswered query arrival source errors
EndsPipe query arrival source output errors statuses.ReadFault = IsStopped arrival source errors model.unreadable
EndsPipe query arrival source output errors statuses.WriteFault =
    IsAnswerCut query arrival source output errors ⊎ IsNamingCut arrival source output errors
EndsPipe query arrival source output errors statuses.Limit =
    (limit : model.Limit) × IsStopped arrival source errors (model.beyond limit)
EndsPipe query arrival source output errors statuses.NoMemory = IsStopped arrival source errors model.no_memory
EndsPipe query arrival source output errors status = ⊥

-- ---- the command

-- what is asked, and what it does to each object
pub record PipeRun : Type 0 where
  pub asked : Pipe
  pub source : Change
  pub output : Change
  pub errors : Change

-- nothing was asked of the source
abbrev pub IsUnread : Change → Type 0
IsUnread source = IsUntold source × (source.faults_after ≡ source.faults_before)

-- The query can be asked, and the run ends so.
pub record EndsReadable (run : PipeRun) (status : Status) : Type 0 where
  pub readable : IsReadableQuery run.asked.query
  pub askable : ¬ IsNoReadableQuery run.asked.query
  pub query : Question
  pub spelled : IsQueryText run.asked.query query
  pub ends : EndsPipe query run.asked.arrival run.source run.output run.errors status

-- The query is refused before anything is read.
pub record EndsRefused (run : PipeRun) (status : Status) : Type 0 where
  pub refusal : QueryRefusal
  pub refused : Refuses run.asked.query refusal
  -- one that can be asked is refused only because memory ran out
  pub free : IsReadableQuery run.asked.query → refusal ≡ Memory
  pub unread : IsUnread run.source
  pub said : ReportsRefused run.errors refusal status

abbrev pub IsPiped : PipeRun → Status → Type 0
IsPiped run status = EndsReadable run status ⊎ EndsRefused run status
