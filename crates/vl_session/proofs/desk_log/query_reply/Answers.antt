use Rattle.std.proofs.Common.{◌≡◌, ap, subst, ◌∙◌, unsigned_abs, FitsSigned, w64, to_z, of_z}
use Rattle.std.proofs.lemmas.Int.{to_z-of_z}
use Rattle.http_reply.specs.Reply.{reply_bytes}
use Rattle.http_reply.specs.declared.status.Kind.TheVariants as kinds
use Rattle.http_reply.specs.declared.status.Status.TheVariants as statuses
use Rattle.log_desk.specs.Seen.{caller_of, seen_of}
use Rattle.vl_session.specs.Answer.{FailsQuery, IsQueryAnswer}
use Rattle.vl_session.specs.Query.{found}
use Rattle.vl_session.proofs.AnswerLemmas.{fault_has}
use Rattle.vl_session.proofs.EffectLemmas.{effect_follows, on_err}
use Rattle.vl_session.proofs.QueryLemmas.{outcome_has}
use Rattle.vl_session.proofs.desk_log.query_reply.Goals as goal

pub returns-in_ok-reply-in-Ok-clause-said : goal.returns-in_ok-reply-in-Ok-clause-said
returns-in_ok-reply-in-Ok-clause-said g c =
    let history = (seen_of c.answer_query-asked.new.pass).history in
    let fits : FitsSigned w64 c.args.now = c.ranges.now in
    let moment : to_z w64 (of_z w64 c.args.now) ≡ c.args.now = to_z-of_z w64 c.args.now fits in
    let answered = subst (λ now. IsQueryAnswer c.args.text.now (unsigned_abs now) history c.in-Ok.answer) moment
    c.in-Ok.ensures.answered in
    let over = answered.facts.over in
    record {
      outcome = found over.found;
      has = c.in-Ok.ensures.looks;
      has_outcome = record {
        query = answered.query;
        spelled = answered.spelled;
        readable = answered.readable;
        facts = over.evaluated;
      };
      said = c.in_ok-reply-in-Ok.ensures
          ∙ ap (λ lines. reply_bytes (statuses.Served kinds.JsonLines) lines c.args.delivery) over.printed;
    }

pub returns-in_ok-text-in-Err-clause-said : goal.returns-in_ok-text-in-Err-clause-said
returns-in_ok-text-in-Err-clause-said g c =
    let old = seen_of c.args.pass.now in
    let new = seen_of c.answer_query-asked.new.pass in
    let fits : FitsSigned w64 c.args.now = c.ranges.now in
    let moment : to_z w64 (of_z w64 c.args.now) ≡ c.args.now = to_z-of_z w64 c.args.now fits in
    let fails = subst (λ now. FailsQuery c.args.text.now (unsigned_abs now) new.history c.in-Err.fault) moment
    c.in-Err.ensures.refused in
    let said = c.in_ok-text-in-Err.ensures in
    record {
      outcome = said.0;
      has = fault_has (caller_of c.args.pass.now) old new c.in-Err.fault said.0 c.in-Err.ensures.effect said.1;
      has_outcome = outcome_has c.args.text.now (unsigned_abs c.args.now) new.history c.in-Err.fault said.0 fails said.1;
      said = said.2;
    }

pub returns-in_err-text-in-Err-clause-unsaid : goal.returns-in_err-text-in-Err-clause-unsaid
returns-in_err-text-in-Err-clause-unsaid g c =
    on_err c.from_residual-in_err-text-in-Err.result _
    (effect_follows (caller_of c.args.pass.now) (seen_of c.args.pass.now) (seen_of c.answer_query-asked.new.pass)
    c.in-Err.fault c.in-Err.ensures.effect)
