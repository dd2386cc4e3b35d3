use Rattle.std.proofs.Common.{◌≡◌, Err, ap, sym, subst, unsigned_abs, FitsSigned, w64, to_z, of_z}
use Rattle.std.proofs.lemmas.Int.{to_z-of_z}
use Rattle.log_model.specs.Core.{parts_of}
use Rattle.log_model.specs.History.{rows_of}
use Rattle.log_desk.specs.Seen.{caller_of, seen_of}
use Rattle.query_run.specs.Answer.{FailsOver}
use Rattle.query_run.specs.Opened.{Counts, admitted}
use Rattle.query_run.specs.Question.{question}
use Rattle.vl_session.specs.Answer.{IsSearchAnswer, fault_effect}
use Rattle.vl_session.specs.Seen.{Has}
use Rattle.vl_session.proofs.EffectLemmas.{failed_has, unasked_has}
use Rattle.vl_session.proofs.QueryLemmas.{answered_as, failed_as, opened_as, refused_as}
use Rattle.vl_session.proofs.SelectLemmas.{only_memory}
use Rattle.vl_session.proofs.answer.answer_query.Goals as goal

pub returns-in-Err-clause-refused : goal.returns-in-Err-clause-refused
returns-in-Err-clause-refused g c =
    refused_as c.args.text.now (unsigned_abs c.args.now) (seen_of c.args.pass.now).history c.in-Err.refusal
    c.from.result c.from.ensures c.in-Err.ensures.refused (λ is. c.in-Err.ensures.fault (ap Err is))

pub returns-in-Err-clause-asked : goal.returns-in-Err-clause-asked
returns-in-Err-clause-asked g c readable =
    let history = (seen_of c.args.pass.now).history in
    c.select_law.ensures.asked c.args.text.now (unsigned_abs c.args.now) history readable c.from.result
    (refused_as c.args.text.now (unsigned_abs c.args.now) history c.in-Err.refusal c.from.result c.from.ensures
    c.in-Err.ensures.refused (λ is. c.in-Err.ensures.fault (ap Err is)))

pub returns-in-Err-clause-complete : goal.returns-in-Err-clause-complete
returns-in-Err-clause-complete g c has =
    let history = (seen_of c.args.pass.now).history in
    only_memory c.select_law.ensures.found c.args.text.now (unsigned_abs c.args.now) history has c.from.result
    (refused_as c.args.text.now (unsigned_abs c.args.now) history c.in-Err.refusal c.from.result c.from.ensures
    c.in-Err.ensures.refused (λ is. c.in-Err.ensures.fault (ap Err is)))

pub returns-in-Err-clause-effect : goal.returns-in-Err-clause-effect
returns-in-Err-clause-effect g c =
    let seen = seen_of c.args.pass.now in
    let caller = caller_of c.args.pass.now in
    subst (λ fault. Has caller seen seen (fault_effect fault)) (sym c.from.ensures) (unasked_has caller seen _)

pub returns-in-Ok-answer-clause-answered : goal.returns-in-Ok-answer-clause-answered
returns-in-Ok-answer-clause-answered g c =
    let history = (seen_of c.answer.new.pass).history in
    let fits : FitsSigned w64 c.args.now = c.ranges.now in
    let moment : to_z w64 (of_z w64 c.args.now) ≡ c.args.now = to_z-of_z w64 c.args.now fits in
    let found = subst (λ now. IsSearchAnswer (question c.in-Ok.search) now history c.in-Ok-answer.answer) moment
    c.in-Ok-answer.ensures.answered in
    answered_as c.args.text.now c.args.now (question c.in-Ok.search) history c.in-Ok-answer.answer c.requires.moment
    c.in-Ok.ensures.read c.in-Ok.ensures.patterns found

pub returns-in-Ok-answer-clause-opened : goal.returns-in-Ok-answer-clause-opened
returns-in-Ok-answer-clause-opened g c =
    let fits : FitsSigned w64 c.args.now = c.ranges.now in
    let moment : to_z w64 (of_z w64 c.args.now) ≡ c.args.now = to_z-of_z w64 c.args.now fits in
    let held = c.in-Ok-answer.answer.snapshot in
    let opened = subst (λ now. Counts c.args.steps.now
    (admitted (question c.in-Ok.search) now (parts_of held)) c.answer.new.steps) moment
    c.in-Ok-answer.ensures.opened in
    opened_as c.args.text.now c.args.now (question c.in-Ok.search) held c.args.steps.now c.answer.new.steps
    c.requires.moment c.in-Ok.ensures.read c.in-Ok.ensures.patterns opened

pub returns-clause-refused : goal.returns-clause-refused
returns-clause-refused g c =
    let history = (seen_of c.answer.new.pass).history in
    let fits : FitsSigned w64 c.args.now = c.ranges.now in
    let moment : to_z w64 (of_z w64 c.args.now) ≡ c.args.now = to_z-of_z w64 c.args.now fits in
    let run = c.in-Err-answer.fault in
    let over = subst (λ now. FailsOver (question c.in-Ok.search) now (rows_of history) run) moment
    c.in-Err-answer.ensures.refused in
    failed_as c.args.text.now c.args.now (question c.in-Ok.search) history run c.from-in-Err-answer.result
    c.from-in-Err-answer.ensures c.requires.moment c.in-Ok.ensures.read c.in-Ok.ensures.patterns over

pub returns-clause-asked : goal.returns-clause-asked
returns-clause-asked g c readable =
    let history = (seen_of c.answer.new.pass).history in
    let fits : FitsSigned w64 c.args.now = c.ranges.now in
    let moment : to_z w64 (of_z w64 c.args.now) ≡ c.args.now = to_z-of_z w64 c.args.now fits in
    let run = c.in-Err-answer.fault in
    let over = subst (λ now. FailsOver (question c.in-Ok.search) now (rows_of history) run) moment
    c.in-Err-answer.ensures.refused in
    c.select_law.ensures.asked c.args.text.now (unsigned_abs c.args.now) history readable c.from-in-Err-answer.result
    (failed_as c.args.text.now c.args.now (question c.in-Ok.search) history run c.from-in-Err-answer.result
    c.from-in-Err-answer.ensures c.requires.moment c.in-Ok.ensures.read c.in-Ok.ensures.patterns over)

pub returns-clause-complete : goal.returns-clause-complete
returns-clause-complete g c has =
    let history = (seen_of c.answer.new.pass).history in
    let fits : FitsSigned w64 c.args.now = c.ranges.now in
    let moment : to_z w64 (of_z w64 c.args.now) ≡ c.args.now = to_z-of_z w64 c.args.now fits in
    let run = c.in-Err-answer.fault in
    let over = subst (λ now. FailsOver (question c.in-Ok.search) now (rows_of history) run) moment
    c.in-Err-answer.ensures.refused in
    only_memory c.select_law.ensures.found c.args.text.now (unsigned_abs c.args.now) history has
    c.from-in-Err-answer.result
    (failed_as c.args.text.now c.args.now (question c.in-Ok.search) history run c.from-in-Err-answer.result
    c.from-in-Err-answer.ensures c.requires.moment c.in-Ok.ensures.read c.in-Ok.ensures.patterns over)

pub returns-clause-effect : goal.returns-clause-effect
returns-clause-effect g c =
    let old = seen_of c.args.pass.now in
    let new = seen_of c.answer.new.pass in
    let caller = caller_of c.args.pass.now in
    subst (λ fault. Has caller old new (fault_effect fault)) (sym c.from-in-Err-answer.ensures)
    (failed_has caller old new c.in-Err-answer.fault c.answer.ensures.looks)
