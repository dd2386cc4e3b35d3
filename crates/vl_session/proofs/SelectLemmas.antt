-- A query has one outcome.
use Rattle.std.proofs.Common.{◌≡◌, ◌⊎◌, inl, inr, refl, ℕ, zero, suc, pos, List, [], ◌∷◌, Result, Ok, Err, sym, ap}
use Rattle.std.proofs.Common.{subst, ◌∙◌}
use Rattle.std.specs.Prelude.{slice_get, IsSomeAnd}
use Rattle.std.specs.List.{AllByRecursion}
use Rattle.log_model.specs.History.{History, rows_of}
use Rattle.http_reply.specs.Reply.{reply_bytes}
use Rattle.http_route.specs.Route.{Wanted, delivery_of, wanted_of}
use Rattle.http_route.specs.declared.refusal.Refusal.{Refusal}
use Rattle.query_run.specs.Evaluation as evaluation
use Rattle.query_run.specs.Evaluation.{evaluate}
use Rattle.query_run.specs.Patterns.{CanBeRead, Pattern, all_patterns}
use Rattle.query_run.specs.Question.{Question}
use Rattle.query_run.specs.Records.{Record}
use Rattle.query_run.specs.Query.{IsQueryText, QueryOf}
use Rattle.query_run.specs.QueryFault.{QueryFault}
use Rattle.query_run.specs.Asked.{HasUnreadablePattern, IsReadableQuery, IsUnspelled}
use Rattle.log_desk.specs.Seen.{Caller}
use Rattle.vl_session.specs.Answer.{FailsQuery, HasRecords, IsOfEvaluation}
use Rattle.vl_session.specs.Query.{Evaluates, HasQueryOutcome, QueryOutcome, found, many_rows, overflows, unreadable}
use Rattle.vl_session.specs.Query.{query_content, query_status, unspelled}
use Rattle.vl_session.specs.Reply.{Answers, AnswersNothing, AnswersQuery}
use Rattle.vl_session.specs.Select.{IsSelectAnswered, IsSelectServed, Select}
use Rattle.vl_session.specs.declared.answer.AnswerFault.{AnswerFault}
use Rattle.vl_session.specs.declared.answer.AnswerFault.TheVariants as faults

-- a text spells one query, or has one fault
abbrev pub HaveOne : Type 0
HaveOne = (text : List ℕ) (one other : Result Question QueryFault) → QueryOf text one → QueryOf text other
    → one ≡ other

abbrev IsOk : {A E : Type 0} → Result A E → Type 0
IsOk (Ok x) = Unit {0}
IsOk (Err e) = ⊥

abbrev ok : Question → Result Question QueryFault
ok query = Ok query

abbrev err : QueryFault → Result Question QueryFault
err fault = Err fault

-- the regular expression with this number can be read if all can
none_unread : (patterns : List Pattern) (n : ℕ) → AllByRecursion CanBeRead patterns
    → IsSomeAnd (slice_get patterns n) (λ pattern. CanBeRead pattern → ⊥) → ⊥
none_unread [] n all one = one
none_unread (p ∷ ps) zero all one = one all.0
none_unread (p ∷ ps) (suc n) all one = none_unread ps n all.1 one

same_error : (one other : QueryFault) → err one ≡ err other → one ≡ other
same_error one other same = cc

same_ok : (one other : Question) → ok one ≡ ok other → one ≡ other
same_ok one other same = cc

module _ (have : HaveOne) (text : List ℕ) where
  same_query : (one other : Question) → IsQueryText text one → IsQueryText text other → one ≡ other
  unfolding QueryOf
  same_query one other first second = same_ok one other (have text (ok one) (ok other) first second)

  not_both : (query : Question) (fault : QueryFault) → IsQueryText text query → IsUnspelled text fault → ⊥
  unfolding QueryOf
  not_both query fault spelled bad = subst IsOk (have text (ok query) (err fault) spelled bad) tt

  all_read : (query : Question) (nth : ℕ) → IsQueryText text query → AllByRecursion CanBeRead (all_patterns query)
      → HasUnreadablePattern text nth → ⊥
  all_read query nth spelled all (other, other_spelled, bad) =
      none_unread (all_patterns query) nth all
      (subst (λ query. IsSomeAnd (slice_get (all_patterns query) nth) (λ pattern. CanBeRead pattern → ⊥))
      (same_query other query other_spelled spelled) bad.1)

  -- a query that can be asked fails in its evaluation only
  pub only_evaluation : (now : ℕ) (history : History) → IsReadableQuery text → (fault : AnswerFault)
      → FailsQuery text now history fault → IsOfEvaluation fault
  only_evaluation now history (query, spelled, all) (faults.Query fault) fails =
      not_both query fault spelled fails.1
  only_evaluation now history (query, spelled, all) (faults.RegexRefused nth) fails =
      all_read query nth spelled all fails
  only_evaluation now history readable faults.ManyRows fails = tt
  only_evaluation now history readable (faults.Overflow name) fails = tt
  only_evaluation now history readable faults.Memory fails = tt

  -- its evaluation over a history is one
  one_outcome : (now : ℕ) (history : History) (first second : evaluation.Outcome) → Evaluates text now history first
      → Evaluates text now history second → second ≡ first
  one_outcome now history first second one other =
      sym other.facts
      ∙ ap (λ query. evaluate query (pos now) (rows_of history)) (same_query other.query one.query other.spelled one.spelled)
      ∙ one.facts

  abbrev HasFound : evaluation.Outcome → Type 0
  HasFound (evaluation.records records) = Unit {0}
  HasFound evaluation.many_rows = ⊥
  HasFound (evaluation.overflow name) = ⊥

  same_records : (records others : List Record) → evaluation.records others ≡ evaluation.records records
      → found others ≡ found records
  same_records records others same = cc

  -- A query that has records has no other outcome.
  pub only_found : (now : ℕ) (history : History) (records : List Record) → HasQueryOutcome text now history (found records)
      → (other : QueryOutcome) → HasQueryOutcome text now history other → other ≡ found records
  only_found now history records has (unspelled fault) bad = absurd (not_both has.query fault has.spelled bad)
  only_found now history records has (unreadable nth) bad = absurd (all_read has.query nth has.spelled has.readable bad)
  only_found now history records has (found others) other =
      same_records records others
      (one_outcome now history (evaluation.records records) (evaluation.records others) has other)
  only_found now history records has many_rows other =
      absurd (subst HasFound
      (sym (one_outcome now history (evaluation.records records) evaluation.many_rows has other)) tt)
  only_found now history records has (overflows name) other =
      absurd (subst HasFound
      (sym (one_outcome now history (evaluation.records records) (evaluation.overflow name) has other)) tt)

-- a query that has records has no other outcome
abbrev pub IsOnlyFound : Type 0
IsOnlyFound = (text : List ℕ) (now : ℕ) (history : History) (records : List Record)
    → HasQueryOutcome text now history (found records) → (other : QueryOutcome) → HasQueryOutcome text now history other
    → other ≡ found records

abbrev IsFoundOutcome : QueryOutcome → Type 0
IsFoundOutcome (found records) = Unit {0}
IsFoundOutcome (unspelled fault) = ⊥
IsFoundOutcome (unreadable nth) = ⊥
IsFoundOutcome many_rows = ⊥
IsFoundOutcome (overflows name) = ⊥

module _ (only : IsOnlyFound) (text : List ℕ) (now : ℕ) (history : History) where
  not_other : (records : List Record) (other : QueryOutcome) → HasQueryOutcome text now history (found records)
      → HasQueryOutcome text now history other → IsFoundOutcome other
  not_other records other has is = subst IsFoundOutcome (sym (only text now history records has other is)) tt

  -- One whose evaluation has records fails only because memory ran out.
  pub only_memory : HasRecords text now history → (fault : AnswerFault) → FailsQuery text now history fault
      → fault ≡ faults.Memory
  only_memory (records, has) (faults.Query fault) fails = absurd (not_other records (unspelled fault) has fails.1)
  only_memory (records, has) (faults.RegexRefused nth) fails = absurd (not_other records (unreadable nth) has fails)
  only_memory (records, has) faults.ManyRows fails = absurd (not_other records many_rows has fails)
  only_memory (records, has) (faults.Overflow name) fails = absurd (not_other records (overflows name) has fails)
  only_memory (records, has) faults.Memory fails = refl

-- A select whose query has records is answered with their lines, or for out of memory.
pub select_answered : HaveOne → (caller : Caller) (select : Select) → IsSelectServed caller select
    → IsSelectAnswered select
select_answered have caller select is = said is.served.answers
  where
    said : Answers (wanted_of select.asked) select.asked.body select.now select.new
        (delivery_of select.asked select.closes) select.effect select.reply
        ⊎ AnswersNothing (delivery_of select.asked select.closes) select.effect select.reply
        → IsSelectAnswered select
    said (inr nothing) = inr nothing
    said (inl answers) =
        let query : AnswersQuery select.text select.now select.new (delivery_of select.asked select.closes)
        select.effect select.reply =
        subst
        (λ (wanted : Result Wanted Refusal). Answers wanted select.asked.body select.now select.new
        (delivery_of select.asked select.closes) select.effect select.reply) is.wanted answers in
        let same : query.outcome ≡ found select.records =
        only_found have select.text select.now select.new.history select.records is.has_records query.outcome
        query.has_outcome in
        inl (query.said
        ∙ ap (λ outcome. reply_bytes (query_status outcome) (query_content outcome)
        (delivery_of select.asked select.closes)) same)
