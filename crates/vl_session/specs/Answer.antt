-- The answer to a query over the shared state, and why there is none.
use Rattle.std.specs.Prelude.{◌≡◌, ◌≢◌, ℕ, ℤ, pos, List, length, Option, None, Some}
use Rattle.log_model.specs.Core.{Contents, Stands, parts_of}
use Rattle.log_model.specs.History.{History, Numbered, rows_of}
pub use Rattle.query_run.specs.Answer.{FailsOver, IsAnswerOver}
use Rattle.query_run.specs.Asked.{ForReadableQuery, HasUnreadablePattern, IsUnspelled}
use Rattle.query_run.specs.Opened.{Counts, admitted}
use Rattle.query_run.specs.Question.{Question}
use Rattle.query_run.specs.Records.{Record}
use Rattle.query_run.specs.QueryFault.TheVariants as spelling
use Rattle.query_run.specs.declared.fault.SearchFault.{SearchFault}
use Rattle.query_run.specs.declared.fault.SearchFault.TheVariants as running
use Rattle.query_run.specs.declared.query.QueryRefusal.{QueryRefusal}
use Rattle.query_run.specs.declared.query.QueryRefusal.TheVariants as refusals
use Rattle.vl_session.specs.Query.{HasQueryOutcome, QueryOutcome, found, many_rows, overflows, unreadable}
use Rattle.vl_session.specs.Query.{unspelled}
use Rattle.vl_session.specs.Seen.{Effect, asks, looks, nothing}
use Rattle.vl_session.specs.declared.answer.Answer.{Answer}
use Rattle.vl_session.specs.declared.answer.AnswerFault.{AnswerFault}
use Rattle.vl_session.specs.declared.answer.AnswerFault.TheVariants.{Query, RegexRefused, ManyRows, Overflow, Memory}

-- The answer is that to this query over all rows of the history.
pub record IsSearchAnswer (query : Question) (now : ℤ) (history : History) (answer : Answer) : Type 0 where
  pub over : IsAnswerOver query now (rows_of history) answer.lines
  pub front : answer.front ≡ length history
  pub stands : Stands (λ rows. rows) answer.snapshot history

-- The text spells a query that can be asked, and the answer is that to it.
abbrev pub IsQueryAnswer : List ℕ → ℕ → History → Answer → Type 0
IsQueryAnswer text now history answer = ForReadableQuery text (λ query. IsSearchAnswer query (pos now) history answer)

-- The text spells a query, and a counter of opened blocks, which has 64 bits, counted those that the query needs of
-- what the parts of the shelf hold.
abbrev pub OpensAdmitted : List ℕ → ℕ → Contents (List Numbered) → ℕ → ℕ → Type 0
OpensAdmitted text now held old new =
    ForReadableQuery text (λ query. Counts old (admitted query (pos now) (parts_of held)) new)

-- Why there is none. `Memory` may always be returned.
abbrev pub FailsQuery : List ℕ → ℕ → History → AnswerFault → Type 0
FailsQuery text now history (Query fault) = (fault ≢ spelling.Memory) × IsUnspelled text fault
FailsQuery text now history (RegexRefused nth) = HasUnreadablePattern text nth
FailsQuery text now history ManyRows =
    ForReadableQuery text (λ query. FailsOver query (pos now) (rows_of history) running.ManyRows)
FailsQuery text now history (Overflow name) =
    ForReadableQuery text (λ query. FailsOver query (pos now) (rows_of history) (running.Overflow name))
FailsQuery text now history Memory = Unit {0}

-- The text spells a query that can be asked, and its evaluation over the history has records.
abbrev pub HasRecords : List ℕ → ℕ → History → Type 0
HasRecords text now history = (records : List Record) × HasQueryOutcome text now history (found records)

-- the query was asked: its evaluation overflows, or memory ran out
abbrev pub IsOfEvaluation : AnswerFault → Type 0
IsOfEvaluation (Query fault) = ⊥
IsOfEvaluation (RegexRefused nth) = ⊥
IsOfEvaluation ManyRows = Unit {0}
IsOfEvaluation (Overflow name) = Unit {0}
IsOfEvaluation Memory = Unit {0}

-- ---- what was seen of the log

-- Only a query that can be asked looks at it. Where memory ran out it may have been looked at.
abbrev pub fault_effect : AnswerFault → Effect
fault_effect (Query fault) = nothing
fault_effect (RegexRefused nth) = nothing
fault_effect ManyRows = looks
fault_effect (Overflow name) = looks
fault_effect Memory = asks

-- ---- what other faults are to the caller

abbrev pub fault_of_refusal : QueryRefusal → AnswerFault
fault_of_refusal (refusals.Unspelled fault) = Query fault
fault_of_refusal (refusals.Pattern nth) = RegexRefused nth
fault_of_refusal refusals.Memory = Memory

abbrev pub fault_of_run : SearchFault → AnswerFault
fault_of_run running.ManyRows = ManyRows
fault_of_run (running.Overflow name) = Overflow name
fault_of_run running.Memory = Memory

-- what a fault is to a session; out of memory is not an outcome
abbrev pub query_outcome_of : AnswerFault → Option QueryOutcome
query_outcome_of (Query fault) = Some (unspelled fault)
query_outcome_of (RegexRefused nth) = Some (unreadable nth)
query_outcome_of ManyRows = Some many_rows
query_outcome_of (Overflow name) = Some (overflows name)
query_outcome_of Memory = None
