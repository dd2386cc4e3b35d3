-- The result of a query with a single caller.
use Rattle.std.proofs.Common.{◌≡◌, ℕ, List, Result, Ok, Err, ap, subst}
use Rattle.std.specs.Prelude.{IfErr, IfOk, OnOk}
use Rattle.log_desk.specs.Seen.{Caller, Seen}
use Rattle.vl_session.specs.Answer.{FailsQuery, IsQueryAnswer, fault_effect}
use Rattle.vl_session.specs.Seen.{Has, Looks}
use Rattle.vl_session.specs.declared.answer.Answer.{Answer}
use Rattle.vl_session.specs.declared.answer.AnswerFault.{AnswerFault}
use Rattle.vl_session.specs.declared.answer.AnswerFault.TheVariants.{Query, RegexRefused, ManyRows, Overflow, Memory}
use Rattle.lone_desk.specs.Alone.{IsAlone}
use Rattle.lone_desk.proofs.Laws.{same_history, same_settled}

module _ (caller : Caller) (alone : IsAlone caller) (old new : Seen) where
  same_behind : (fault : AnswerFault) → Has caller old new (fault_effect fault) → new.history ≡ old.history
  same_behind (Query fault) has = ap (λ (seen : Seen). seen.history) has
  same_behind (RegexRefused nth) has = ap (λ (seen : Seen). seen.history) has
  same_behind ManyRows has = same_history caller alone old new has.0
  same_behind (Overflow name) has = same_history caller alone old new has.0
  same_behind Memory has = same_history caller alone old new has

  same_mark : (fault : AnswerFault) → Has caller old new (fault_effect fault) → new.settled ≡ old.settled
  same_mark (Query fault) has = ap (λ (seen : Seen). seen.settled) has
  same_mark (RegexRefused nth) has = ap (λ (seen : Seen). seen.settled) has
  same_mark ManyRows has = same_settled caller alone old new has.0
  same_mark (Overflow name) has = same_settled caller alone old new has.0
  same_mark Memory has = same_settled caller alone old new has

  pub answered : (text : List ℕ) (now : ℕ) (result : Result Answer AnswerFault) → OnOk result (Looks caller old new)
      → IfOk result (IsQueryAnswer text now new.history) → IfOk result (IsQueryAnswer text now old.history)
  answered text now (Ok answer) looks is =
      subst (λ history. IsQueryAnswer text now history answer) (same_history caller alone old new looks.0) is
  answered text now (Err fault) looks is = tt

  pub failed : (text : List ℕ) (now : ℕ) (result : Result Answer AnswerFault)
      → IfErr result (λ fault. Has caller old new (fault_effect fault)) → IfErr result (FailsQuery text now new.history)
      → IfErr result (FailsQuery text now old.history)
  failed text now (Ok answer) has fails = tt
  failed text now (Err fault) has fails =
      subst (λ history. FailsQuery text now history fault) (same_behind fault has) fails

  -- Nothing was added, whatever came of the query.
  pub stays : (result : Result Answer AnswerFault) → OnOk result (Looks caller old new)
      → IfErr result (λ fault. Has caller old new (fault_effect fault)) → new.history ≡ old.history
  stays (Ok answer) looks has = same_history caller alone old new looks.0
  stays (Err fault) looks has = same_behind fault has

  -- And nothing was settled.
  pub mark_stays : (result : Result Answer AnswerFault) → OnOk result (Looks caller old new)
      → IfErr result (λ fault. Has caller old new (fault_effect fault)) → new.settled ≡ old.settled
  mark_stays (Ok answer) looks has = same_settled caller alone old new looks.0
  mark_stays (Err fault) looks has = same_mark fault has
