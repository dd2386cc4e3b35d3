-- What a query that has no answer does to what has been seen.
use Rattle.std.proofs.Common.{refl, subst, sym}
use Rattle.std.specs.Prelude.{OnErr, Result, Ok, Err}
use Rattle.log_desk.specs.Seen.{Caller, Follows, Seen}
use Rattle.query_run.specs.declared.fault.SearchFault.{SearchFault}
use Rattle.query_run.specs.declared.fault.SearchFault.TheVariants.{ManyRows, Overflow, Memory}
use Rattle.query_run.specs.declared.query.QueryRefusal.{QueryRefusal}
use Rattle.query_run.specs.declared.query.QueryRefusal.TheVariants as refusals
use Rattle.vl_session.specs.Answer.{fault_effect, fault_of_refusal, fault_of_run}
use Rattle.vl_session.specs.Seen.{Has, Looks}
use Rattle.vl_session.specs.declared.answer.AnswerFault.{AnswerFault}
use Rattle.vl_session.specs.declared.answer.AnswerFault.TheVariants as answers
use Rattle.vl_session.proofs.SeenLemmas.{follows_none}

-- a text that is not asked
pub unasked_has : (caller : Caller) (seen : Seen) (refusal : QueryRefusal)
    → Has caller seen seen (fault_effect (fault_of_refusal refusal))
unasked_has caller seen (refusals.Unspelled fault) = refl
unasked_has caller seen (refusals.Pattern nth) = refl
unasked_has caller seen refusals.Memory = follows_none caller seen

-- an evaluation that fails
pub failed_has : (caller : Caller) (old new : Seen) (fault : SearchFault) → Looks caller old new
    → Has caller old new (fault_effect (fault_of_run fault))
failed_has caller old new ManyRows looks = looks
failed_has caller old new (Overflow name) looks = looks
failed_has caller old new Memory looks = looks.0

-- In each case the caller follows the history.
pub effect_follows : (caller : Caller) (old new : Seen) (fault : AnswerFault) → Has caller old new (fault_effect fault)
    → Follows caller old new
effect_follows caller old new (answers.Query fault) same = subst (Follows caller old) (sym same) (follows_none caller old)
effect_follows caller old new (answers.RegexRefused nth) same = subst (Follows caller old) (sym same) (follows_none caller old)
effect_follows caller old new answers.ManyRows looks = looks.0
effect_follows caller old new (answers.Overflow name) looks = looks.0
effect_follows caller old new answers.Memory follows = follows

-- what is so anyway is so of an error
pub on_err : {T E : Type 0} (result : Result T E) (P : Type 0) → P → OnErr result P
on_err (Ok x) P p = tt
on_err (Err e) P p = p
