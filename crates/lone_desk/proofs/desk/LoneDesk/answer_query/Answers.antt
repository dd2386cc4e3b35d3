use Rattle.std.proofs.Common.{◌≡◌, sym, subst, unsigned_abs, FitsSigned, w64}
use Rattle.std.specs.Prelude.{IfErr, IfOk}
use Rattle.std.proofs.lemmas.Int.{to_z-of_z}
use Rattle.log_desk.specs.Seen.{Seen, caller_of, seen_of}
use Rattle.vl_session.specs.Answer.{FailsQuery, HasRecords, IsQueryAnswer}
use Rattle.lone_desk.proofs.AnswerLaws.{answered, failed, mark_stays, stays}
use Rattle.lone_desk.proofs.desk.LoneDesk.answer_query.Goals as goal

pub returns-clause-answered : goal.returns-clause-answered
returns-clause-answered g c =
    let fits : FitsSigned w64 c.args.now = c.ranges.now in
    let e = c.answer_query.ensures in
    let pass = c.self.inside.pass in
    subst (λ (seen : Seen).
    IfOk c.answer_query.result (IsQueryAnswer c.args.text.now (unsigned_abs c.args.now) seen.history)) c.self.view_is
    (answered (caller_of pass) c.self.invariant.1 (seen_of pass) (seen_of c.answer_query.new.pass) c.args.text.now
    (unsigned_abs c.args.now) c.answer_query.result e.looks (simp to_z-of_z at e.answered))

pub returns-clause-refused : goal.returns-clause-refused
returns-clause-refused g c =
    let fits : FitsSigned w64 c.args.now = c.ranges.now in
    let e = c.answer_query.ensures in
    let pass = c.self.inside.pass in
    subst (λ (seen : Seen).
    IfErr c.answer_query.result (FailsQuery c.args.text.now (unsigned_abs c.args.now) seen.history)) c.self.view_is
    (failed (caller_of pass) c.self.invariant.1 (seen_of pass) (seen_of c.answer_query.new.pass) c.args.text.now
    (unsigned_abs c.args.now) c.answer_query.result e.effect (simp to_z-of_z at e.refused))

pub returns-clause-same : goal.returns-clause-same
returns-clause-same g c =
    let e = c.answer_query.ensures in
    let pass = c.self.inside.pass in
    subst (λ (seen : Seen). (seen_of c.answer_query.new.pass).history ≡ seen.history) c.self.view_is
    (stays (caller_of pass) c.self.invariant.1 (seen_of pass) (seen_of c.answer_query.new.pass) c.answer_query.result
    e.looks e.effect)

pub returns-clause-mark : goal.returns-clause-mark
returns-clause-mark g c =
    let e = c.answer_query.ensures in
    let pass = c.self.inside.pass in
    subst (λ (seen : Seen). (seen_of c.answer_query.new.pass).settled ≡ seen.settled) c.self.view_is
    (mark_stays (caller_of pass) c.self.invariant.1 (seen_of pass) (seen_of c.answer_query.new.pass)
    c.answer_query.result e.looks e.effect)

pub returns-clause-complete : goal.returns-clause-complete
returns-clause-complete g c has =
    let fits : FitsSigned w64 c.args.now = c.ranges.now in
    let e = c.answer_query.ensures in
    let pass = c.self.inside.pass in
    let same = stays (caller_of pass) c.self.invariant.1 (seen_of pass) (seen_of c.answer_query.new.pass)
    c.answer_query.result e.looks e.effect in
    let complete = simp to_z-of_z at e.complete in
    complete (subst (HasRecords c.args.text.now (unsigned_abs c.args.now)) (sym same)
    (subst (λ (seen : Seen). HasRecords c.args.text.now (unsigned_abs c.args.now) seen.history) (sym c.self.view_is) has))
