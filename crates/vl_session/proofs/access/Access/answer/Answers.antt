use Rattle.std.proofs.Common.{◌≡◌, subst, ◌∙◌, FitsSigned, w64, to_z, of_z}
use Rattle.std.proofs.lemmas.Int.{to_z-of_z}
use Rattle.log_model.specs.History.{rows_of}
use Rattle.log_desk.specs.Seen.{seen_of}
use Rattle.query_run.specs.Answer.{FailsOver, IsAnswerOver}
use Rattle.query_run.specs.Question.{question}
use Rattle.vl_session.proofs.access.Access.answer.Goals as goal

pub returns-in-Ok-answer-clause-answered : goal.returns-in-Ok-answer-clause-answered
returns-in-Ok-answer-clause-answered g c =
    let stands = c.in-Ok.ensures.stands in
    let history = (seen_of c.look.new.pass).history in
    let fits : FitsSigned w64 c.args.now = c.ranges.now in
    let moment : to_z w64 (of_z w64 c.args.now) ≡ c.args.now = to_z-of_z w64 c.args.now fits in
    record {
      over = subst (λ now. IsAnswerOver (question c.args.search.now) now (rows_of history) c.in-Ok-answer.lines) moment
          (c.in-Ok-answer.ensures.answered history stands);
      front = c.front-front.ensures.value ∙ stands.counted;
      stands = stands;
    }

pub returns-in-Ok-answer-clause-opened : goal.returns-in-Ok-answer-clause-opened
returns-in-Ok-answer-clause-opened g c =
    let fits : FitsSigned w64 c.args.now = c.ranges.now in simp to_z-of_z at c.in-Ok-answer.ensures.steps

pub returns-in-Err-answer-clause-refused : goal.returns-in-Err-answer-clause-refused
returns-in-Err-answer-clause-refused g c =
    let history = (seen_of c.look.new.pass).history in
    let fits : FitsSigned w64 c.args.now = c.ranges.now in
    let moment : to_z w64 (of_z w64 c.args.now) ≡ c.args.now = to_z-of_z w64 c.args.now fits in
    subst (λ now. FailsOver (question c.args.search.now) now (rows_of history) c.in-Err-answer.fault) moment
    (c.in-Err-answer.ensures.fault history c.in-Ok.ensures.stands)
