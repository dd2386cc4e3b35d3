-- Queries over what is held.
use Rattle.std.proofs.lemmas.Int.{ints}
use Rattle.std.proofs.Common.{arith, ◌≡◌, ◌≢◌, ℕ, ℤ, pos, negsuc, unsigned_abs, ◌≤ℤ◌, List, [], ◌∷◌, ◌++◌, Some, refl}
use Rattle.std.proofs.Common.{sym, ap, subst, ◌∙◌}
use Rattle.std.specs.List.{AllByRecursion}
use Rattle.log_model.specs.Core.{Contents, parts_of}
use Rattle.log_model.specs.History.{History, Numbered, batches_in, entry_rows, rows_of}
use Rattle.log_model.specs.Row.{Batch}
use Rattle.query_run.specs.Patterns.{CanBeRead, all_patterns}
use Rattle.query_run.specs.Question.{Question}
use Rattle.query_run.specs.Query.{IsQueryText}
use Rattle.query_run.specs.QueryFault.TheVariants as spelling
use Rattle.query_run.specs.Answer.{FailsOver}
use Rattle.query_run.specs.Asked.{ForReadableQuery, Refuses}
use Rattle.query_run.specs.Opened.{Counts, admitted}
use Rattle.query_run.specs.declared.fault.SearchFault.{SearchFault}
use Rattle.query_run.specs.declared.fault.SearchFault.TheVariants.{ManyRows, Overflow, Memory}
use Rattle.query_run.specs.declared.query.QueryRefusal.{QueryRefusal}
use Rattle.query_run.specs.declared.query.QueryRefusal.TheVariants as refusals
use Rattle.vl_session.specs.Answer.{FailsQuery, IsQueryAnswer, IsSearchAnswer, OpensAdmitted}
use Rattle.vl_session.specs.Answer.{fault_of_refusal, fault_of_run, query_outcome_of}
use Rattle.vl_session.specs.Query.{HasQueryOutcome, QueryOutcome, batch_list_rows, many_rows, overflows, unreadable}
use Rattle.vl_session.specs.Query.{unspelled}
use Rattle.vl_session.specs.declared.answer.Answer.{Answer}
use Rattle.vl_session.specs.declared.answer.AnswerFault.{AnswerFault}
use Rattle.vl_session.specs.declared.answer.AnswerFault.TheVariants as answers
use Rattle.vl_session.specs.declared.answer.AnswerFault.TheVariants.{Query, RegexRefused}

-- a moment that is not negative
pub same_moment : (now : ℤ) → pos 0 ≤ℤ now → now ≡ pos (unsigned_abs now)
same_moment (pos n) from = refl
same_moment (negsuc n) from = absurd (omega (arith, ints))

-- what holds of a query at a moment that is not negative
asks : (text : List ℕ) (now : ℤ) (query : Question) (holds : Question → ℤ → Type 0) → pos 0 ≤ℤ now
    → IsQueryText text query → AllByRecursion CanBeRead (all_patterns query) → holds query now
    → ForReadableQuery text (λ query. holds query (pos (unsigned_abs now)))
asks text now query holds from spelled readable is = record {
  query = query;
  spelled = spelled;
  readable = readable;
  facts = subst (holds query) (same_moment now from) is;
}

-- A history has the rows of its batches.
rows_of_batches : (history : History) → rows_of history ≡ batch_list_rows (batches_in history)
rows_of_batches [] = refl
rows_of_batches (entry ∷ history) = ap (λ rows. entry_rows entry ++ rows) (rows_of_batches history)

pub history_rows : (history : History) (batches : List Batch) → batches_in history ≡ batches
    → rows_of history ≡ batch_list_rows batches
history_rows history batches are = rows_of_batches history ∙ ap batch_list_rows are

-- why a text is not asked
pub refused_text : (text : List ℕ) (now : ℕ) (history : History) (refusal : QueryRefusal) → Refuses text refusal
    → refusal ≢ refusals.Unspelled spelling.Memory → FailsQuery text now history (fault_of_refusal refusal)
refused_text text now history (refusals.Unspelled fault) refuses lasting =
    (λ is. lasting (ap refusals.Unspelled is), refuses)
refused_text text now history (refusals.Pattern nth) refuses lasting = refuses
refused_text text now history refusals.Memory refuses lasting = tt

pub refused_as : (text : List ℕ) (now : ℕ) (history : History) (refusal : QueryRefusal) (fault : AnswerFault)
    → fault ≡ fault_of_refusal refusal → Refuses text refusal → refusal ≢ refusals.Unspelled spelling.Memory
    → FailsQuery text now history fault
refused_as text now history refusal fault is refuses lasting =
    subst (FailsQuery text now history) (sym is) (refused_text text now history refusal refuses lasting)

-- why a query has no answer
failed_run : (text : List ℕ) (now : ℤ) (query : Question) (history : History) (fault : SearchFault) → pos 0 ≤ℤ now
    → IsQueryText text query → AllByRecursion CanBeRead (all_patterns query)
    → FailsOver query now (rows_of history) fault → FailsQuery text (unsigned_abs now) history (fault_of_run fault)
failed_run text now query history ManyRows from spelled readable fails =
    asks text now query (λ query now. FailsOver query now (rows_of history) ManyRows) from spelled readable fails
failed_run text now query history (Overflow name) from spelled readable fails =
    asks text now query (λ query now. FailsOver query now (rows_of history) (Overflow name)) from spelled readable fails
failed_run text now query history Memory from spelled readable fails = tt

pub failed_as : (text : List ℕ) (now : ℤ) (query : Question) (history : History) (run : SearchFault) (fault : AnswerFault)
    → fault ≡ fault_of_run run → pos 0 ≤ℤ now → IsQueryText text query → AllByRecursion CanBeRead (all_patterns query)
    → FailsOver query now (rows_of history) run → FailsQuery text (unsigned_abs now) history fault
failed_as text now query history run fault is from spelled readable fails =
    subst (FailsQuery text (unsigned_abs now) history) (sym is)
    (failed_run text now query history run from spelled readable fails)

-- the answer to a query
pub answered_as : (text : List ℕ) (now : ℤ) (query : Question) (history : History) (answer : Answer) → pos 0 ≤ℤ now
    → IsQueryText text query → AllByRecursion CanBeRead (all_patterns query) → IsSearchAnswer query now history answer
    → IsQueryAnswer text (unsigned_abs now) history answer
answered_as text now query history answer from spelled readable found =
    asks text now query (λ query now. IsSearchAnswer query now history answer) from spelled readable found

-- the blocks that were opened for it
pub opened_as : (text : List ℕ) (now : ℤ) (query : Question) (held : Contents (List Numbered)) (old new : ℕ)
    → pos 0 ≤ℤ now → IsQueryText text query → AllByRecursion CanBeRead (all_patterns query)
    → Counts old (admitted query now (parts_of held)) new → OpensAdmitted text (unsigned_abs now) held old new
opened_as text now query held old new from spelled readable counted =
    asks text now query (λ query now. Counts old (admitted query now (parts_of held)) new) from spelled readable counted

-- what comes of it for a session
pub outcome_has : (text : List ℕ) (now : ℕ) (history : History) (fault : AnswerFault) (outcome : QueryOutcome)
    → FailsQuery text now history fault → query_outcome_of fault ≡ Some outcome
    → HasQueryOutcome text now history outcome
outcome_has text now history (Query fault) outcome fails is =
    let same : unspelled fault ≡ outcome = cc in subst (HasQueryOutcome text now history) same fails.1
outcome_has text now history (RegexRefused nth) outcome fails is =
    let same : unreadable nth ≡ outcome = cc in subst (HasQueryOutcome text now history) same fails
outcome_has text now history answers.ManyRows outcome fails is =
    let same : many_rows ≡ outcome = cc in subst (HasQueryOutcome text now history) same fails
outcome_has text now history (answers.Overflow name) outcome fails is =
    let same : overflows name ≡ outcome = cc in subst (HasQueryOutcome text now history) same fails
outcome_has text now history answers.Memory outcome fails is = absurd cc
