use Rattle.std.proofs.Common.{◌≡◌, IfOk, Ok, ap, sym, subst, ◌∙◌, string_bytes, pos, unsigned_abs, FitsSigned, w64, to_z, of_z}
use Rattle.std.proofs.lemmas.Int.{to_z-of_z}
use Rattle.http_route.specs.Route.{wanted_by}
use Rattle.log_desk.specs.Seen.{caller_of, seen_of}
use Rattle.vl_session.specs.Answering.{Answered, SaysOutcome}
use Rattle.vl_session.specs.Incoming.{IsIncoming, IsNoBatch}
use Rattle.vl_session.specs.Sent.{bytes_of}
use Rattle.vl_session.proofs.AnswerLemmas.{insert_answered, insert_unread_reply, query_answered, status_answered}
use Rattle.vl_session.proofs.EffectLemmas.{on_err}
use Rattle.vl_session.proofs.QueryLemmas.{same_moment}
use Rattle.vl_session.proofs.SeenLemmas.{follows_none}
use Rattle.vl_session.proofs.desk_log.reply_to.Goals as goal

pub returns-in-Ok-clause-answered : goal.returns-in-Ok-clause-answered
returns-in-Ok-clause-answered g c =
    let options = c.in-Ok-Insert.options in
    let body = c.args.request.now.body in
    let caller = caller_of c.args.pass.now in
    let old = seen_of c.args.pass.now in
    let new = seen_of c.take_in.new.pass in
    let read = c.in-Ok.ensures.read in
    let fits : FitsSigned w64 c.args.now = c.ranges.now in
    let moment : to_z w64 (of_z w64 c.args.now) ≡ pos (unsigned_abs c.args.now) =
    to_z-of_z w64 c.args.now fits ∙ same_moment c.args.now c.requires.moment in
    let at_now = subst (λ now. IsIncoming options now c.as_slice-body.result.now read.0 c.in-Ok.incoming) moment read.1 in
    let is = subst (λ bytes. IsIncoming options (pos (unsigned_abs c.args.now)) bytes read.0 c.in-Ok.incoming) c.as_slice-body.ensures at_now in
    let wanted = c.in-Ok-Insert.ensures.ok ∙ ap (λ want. Ok (wanted_by want)) c.in-Ok-Insert.field-0-is in
    subst
    (λ wanted. Answered caller wanted body (unsigned_abs c.args.now) old new c.args.delivery (bytes_of c.in_ok-reply-in-Ok.reply))
    (sym wanted)
    (insert_answered caller options (unsigned_abs c.args.now) body c.in-Ok.incoming old new c.args.delivery
    (bytes_of c.in_ok-reply-in-Ok.reply) read.0 is c.in_ok-reply-in-Ok.ensures.taken)

pub returns-in-Ok-Insert-clause-answered : goal.returns-in-Ok-Insert-clause-answered
returns-in-Ok-Insert-clause-answered g c =
    let options = c.in-Ok-Insert.options in
    let body = c.args.request.now.body in
    let caller = caller_of c.args.pass.now in
    let seen = seen_of c.args.pass.now in
    let fault = c.in-Err.fault in
    let fits : FitsSigned w64 c.args.now = c.ranges.now in
    let moment : to_z w64 (of_z w64 c.args.now) ≡ pos (unsigned_abs c.args.now) =
    to_z-of_z w64 c.args.now fits ∙ same_moment c.args.now c.requires.moment in
    let at_now = subst (λ now. IsNoBatch options now c.as_slice-body.result.now fault) moment c.in-Err.ensures.unread in
    let unread = subst (λ bytes. IsNoBatch options (pos (unsigned_abs c.args.now)) bytes fault) c.as_slice-body.ensures at_now in
    let wanted = c.in-Ok-Insert.ensures.ok ∙ ap (λ want. Ok (wanted_by want)) c.in-Ok-Insert.field-0-is in
    subst
    (λ wanted. IfOk c.whole.result
    (λ reply. Answered caller wanted body (unsigned_abs c.args.now) seen seen c.args.delivery (bytes_of reply)))
    (sym wanted)
    (insert_unread_reply c.whole.result c.refusal_reply.result bytes_of string_bytes caller options
    (unsigned_abs c.args.now) body seen c.args.delivery fault unread c.whole.ensures c.refusal_reply.ensures)

pub returns-in-Ok-Status-clause-answered : goal.returns-in-Ok-Status-clause-answered
returns-in-Ok-Status-clause-answered g c =
    let body = c.args.request.now.body in
    let new = c.status-batches.new.pass in
    let e = c.status-batches.ensures in
    let text = string_bytes c.in_ok-text-in-Ok-Status.text in
    let wanted = c.in-Ok-Status.ensures.ok ∙ ap (λ want. Ok (wanted_by want)) c.in-Ok-Status.field-0-is in
    subst
    (λ wanted. Answered (caller_of c.args.pass.now) wanted body (unsigned_abs c.args.now) (seen_of c.args.pass.now) (seen_of new)
    c.args.delivery text) (sym wanted)
    (status_answered (caller_of c.args.pass.now) (seen_of c.args.pass.now) (seen_of new) body (unsigned_abs c.args.now)
    c.args.delivery text c.status-batches.result.0 c.status-batches.result.1 e.looks e.numbers.0 e.numbers.1
    c.in_ok-text-in-Ok-Status.ensures)

pub returns-in-Ok-Query-clause-answered : goal.returns-in-Ok-Query-clause-answered
returns-in-Ok-Query-clause-answered g c =
    let body = c.args.request.now.body in
    let caller = caller_of c.args.pass.now in
    let old = seen_of c.args.pass.now in
    let new = seen_of c.query_reply.new.pass in
    let text = c.in-Ok-Query.text.now in
    let reply = bytes_of c.in_ok-reply-in-Ok-Query.reply in
    let fits : FitsSigned w64 c.args.now = c.ranges.now in
    let moment : to_z w64 (of_z w64 c.args.now) ≡ c.args.now = to_z-of_z w64 c.args.now fits in
    let wanted = c.in-Ok-Query.ensures.ok ∙ ap (λ want. Ok (wanted_by want)) c.in-Ok-Query.field-0-is in
    subst (λ wanted. Answered caller wanted body (unsigned_abs c.args.now) old new c.args.delivery reply) (sym wanted)
    (query_answered caller text (unsigned_abs c.args.now) body old new c.args.delivery reply
    (subst (λ now. SaysOutcome caller text (unsigned_abs now) old new c.args.delivery reply) moment
    c.in_ok-reply-in-Ok-Query.ensures.said))

pub returns-in-Ok-Insert-clause-unanswered : goal.returns-in-Ok-Insert-clause-unanswered
returns-in-Ok-Insert-clause-unanswered g c =
    on_err c.whole.result _ (follows_none (caller_of c.args.pass.now) (seen_of c.args.pass.now))

pub returns-in-Ok-Health-clause-unanswered : goal.returns-in-Ok-Health-clause-unanswered
returns-in-Ok-Health-clause-unanswered g c =
    on_err c.whole-in-Ok-Health.result _ (follows_none (caller_of c.args.pass.now) (seen_of c.args.pass.now))

pub returns-in-Err-Refused-clause-unanswered : goal.returns-in-Err-Refused-clause-unanswered
returns-in-Err-Refused-clause-unanswered g c =
    on_err c.whole-in-Err-Refused.result _ (follows_none (caller_of c.args.pass.now) (seen_of c.args.pass.now))

pub returns-clause-unanswered : goal.returns-clause-unanswered
returns-clause-unanswered g c = follows_none (caller_of c.args.pass.now) (seen_of c.args.pass.now)
