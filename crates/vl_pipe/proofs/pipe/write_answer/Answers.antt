use Rattle.std.proofs.Common.{◌≡◌, sym, subst, FitsSigned, w64, to_z, of_z}
use Rattle.std.proofs.lemmas.Int.{to_z-of_z}
use Rattle.log_model.specs.History.{rows_of}
use Rattle.lone_desk.specs.Answer.{FailsOver, IsAnswerOver}
use Rattle.lone_desk.specs.Question.{question}
use Rattle.vl_pipe.specs.Pipe.{StopsAnswer}
use Rattle.vl_pipe.proofs.AnswerLemmas.{stops_answer}
use Rattle.vl_pipe.proofs.pipe.write_answer.Goals as goal

pub returns-in-Err-clause-stopped : goal.returns-in-Err-clause-stopped
returns-in-Err-clause-stopped g c =
    let query = question c.args.search.now in
    let rows = rows_of c.args.desk.now.history in
    let fits : FitsSigned w64 c.args.now = c.ranges.now in
    let moment : to_z w64 (of_z w64 c.args.now) ≡ c.args.now = to_z-of_z w64 c.args.now fits in
    let fails = subst (λ now. FailsOver query now rows c.in-Err.fault) moment c.in-Err.ensures.refused in
    subst (StopsAnswer query c.args.now rows _) (sym c.from.ensures)
    (stops_answer query c.args.now rows _ c.in-Err.fault fails)

pub returns-in-Ok-put_all-clause-done : goal.returns-in-Ok-put_all-clause-done
returns-in-Ok-put_all-clause-done g c =
    let query = question c.args.search.now in
    let rows = rows_of c.args.desk.now.history in
    let fits : FitsSigned w64 c.args.now = c.ranges.now in
    let moment : to_z w64 (of_z w64 c.args.now) ≡ c.args.now = to_z-of_z w64 c.args.now fits in (
      c.in-Ok.answer.lines,
      subst (λ now. IsAnswerOver query now rows c.in-Ok.answer.lines) moment c.in-Ok.ensures.answered.over,
      rw (c.as_bytes.ensures.value, c.as_str.ensures.value) at c.in-Ok-put_all.ensures.ok,
    )

pub returns-clause-stopped : goal.returns-clause-stopped
returns-clause-stopped g c =
    let query = question c.args.search.now in
    let rows = rows_of c.args.desk.now.history in
    let fits : FitsSigned w64 c.args.now = c.ranges.now in
    let moment : to_z w64 (of_z w64 c.args.now) ≡ c.args.now = to_z-of_z w64 c.args.now fits in
    let cut = rw (c.as_bytes.ensures.value, c.as_str.ensures.value) at c.in-Err-put_all.ensures.err in (
      c.in-Ok.answer.lines,
      subst (λ now. IsAnswerOver query now rows c.in-Ok.answer.lines) moment c.in-Ok.ensures.answered.over,
      record { len = cut.0; proper = cut.1; took = cut.2; failed = c.in-Err-put_all.ensures.cause.failed },
    )
