use Rattle.std.proofs.Common.{◌≡◌, subst, FitsSigned, w64}
use Rattle.std.specs.Prelude.{IfErr, IfOk}
use Rattle.std.proofs.lemmas.Int.{to_z-of_z}
use Rattle.log_model.specs.History.{History, rows_of}
use Rattle.log_desk.specs.Seen.{Seen, caller_of, seen_of}
use Rattle.vl_session.specs.Answer.{FailsOver, IsSearchAnswer}
use Rattle.vl_session.specs.Question.{question}
use Rattle.lone_desk.proofs.Laws.{same_history, same_settled}
use Rattle.lone_desk.proofs.desk.LoneDesk.answer.Goals as goal

pub returns-clause-answered : goal.returns-clause-answered
returns-clause-answered g c =
    let fits : FitsSigned w64 c.args.now = c.ranges.now in
    let query = question c.args.search.now in
    let pass = c.self.inside.pass in
    let stays = same_history (caller_of pass) c.self.invariant.1 (seen_of pass) (seen_of c.answer.new.pass)
    c.answer.ensures.looks.0 in
    subst (λ (seen : Seen). IfOk c.answer.result (IsSearchAnswer query c.args.now seen.history)) c.self.view_is
    (subst (λ (history : History). IfOk c.answer.result (IsSearchAnswer query c.args.now history)) stays
    (simp to_z-of_z at c.answer.ensures.answered))

pub returns-clause-refused : goal.returns-clause-refused
returns-clause-refused g c =
    let fits : FitsSigned w64 c.args.now = c.ranges.now in
    let query = question c.args.search.now in
    let pass = c.self.inside.pass in
    let stays = same_history (caller_of pass) c.self.invariant.1 (seen_of pass) (seen_of c.answer.new.pass)
    c.answer.ensures.looks.0 in
    subst (λ (seen : Seen). IfErr c.answer.result (FailsOver query c.args.now (rows_of seen.history)))
    c.self.view_is
    (subst (λ (history : History). IfErr c.answer.result (FailsOver query c.args.now (rows_of history))) stays
    (simp to_z-of_z at c.answer.ensures.refused))

pub returns-clause-same : goal.returns-clause-same
returns-clause-same g c =
    let pass = c.self.inside.pass in
    let stays = same_history (caller_of pass) c.self.invariant.1 (seen_of pass) (seen_of c.answer.new.pass)
    c.answer.ensures.looks.0 in
    subst (λ (seen : Seen). (seen_of c.answer.new.pass).history ≡ seen.history) c.self.view_is stays

pub returns-clause-mark : goal.returns-clause-mark
returns-clause-mark g c =
    subst (λ (seen : Seen). (seen_of c.answer.new.pass).settled ≡ seen.settled) c.self.view_is
    (same_settled (caller_of c.self.inside.pass) c.self.invariant.1 (seen_of c.self.inside.pass)
    (seen_of c.answer.new.pass) c.answer.ensures.looks.0)
