use Rattle.std.proofs.Common.{◌≡◌, ap, pos, subst, ◌∙◌, FitsSigned, w64, to_z, of_z}
use Rattle.std.proofs.lemmas.Int.{fits_signed_from_abs, to_z-of_z}
use Rattle.vl_io.specs.Change.{change_of}
use Rattle.lone_desk.specs.Question.{question}
use Rattle.vl_pipe.specs.Pipe.{ReportsInterrupt}
use Rattle.vl_pipe.proofs.PipeLemmas.{answered, reported, stops_load, unanswered}
use Rattle.vl_pipe.proofs.pipe.answer_input.Goals as goal

pub returns-in-Err-clause-ends : goal.returns-in-Err-clause-ends
returns-in-Err-clause-ends g c =
    let query = question c.args.prepared.now.search.now in
    let arrival = c.args.prepared.now.arrival.now in
    let source = change_of g.S.Source.left g.S.Source.faults c.args.src.now c.load_fresh.new.src in
    let output = change_of g.O.Sink.written g.O.Sink.faults c.args.out.now c.args.out.now in
    let errors = change_of g.E.Sink.written g.E.Sink.faults c.args.err.now c.report_interrupt.new.err in
    reported arrival source _ _ _ _ _ _ query output c.in-Err.interrupt c.report_interrupt.result
    c.in-Err.ensures.faults
    (stops_load query arrival source _ _ _ _ c.in-Err.interrupt c.in-Err.ensures.stopped)
    c.report_interrupt.ensures

pub returns-in-Ok-write_answer-clause-ends : goal.returns-in-Ok-write_answer-clause-ends
returns-in-Ok-write_answer-clause-ends g c =
    let fits : FitsSigned w64 c.moment.result = fits_signed_from_abs w64 c.moment.result c.moment.ensures.in_range.0 in
    let moment : to_z w64 (of_z w64 c.moment.result) ≡ pos c.args.prepared.now.arrival.now.moment =
    to_z-of_z w64 c.moment.result fits ∙ c.moment.ensures.in_range.1 ∙ ap pos c.moment.ensures.value in
    let query = question c.args.prepared.now.search.now in
    let arrival = c.args.prepared.now.arrival.now in
    let source = change_of g.S.Source.left g.S.Source.faults c.args.src.now c.load_fresh.new.src in
    let output = change_of g.O.Sink.written g.O.Sink.faults c.args.out.now c.write_answer.new.out in
    let errors = change_of g.E.Sink.written g.E.Sink.faults c.args.err.now c.load_fresh.new.err in
    answered query arrival _ moment source output errors c.in-Ok.desk c.in-Ok.ensures.loaded
    c.in-Ok.ensures.settled
    c.in-Ok-write_answer.ensures.done

pub returns-clause-ends : goal.returns-clause-ends
returns-clause-ends g c =
    let fits : FitsSigned w64 c.moment.result = fits_signed_from_abs w64 c.moment.result c.moment.ensures.in_range.0 in
    let moment : to_z w64 (of_z w64 c.moment.result) ≡ pos c.args.prepared.now.arrival.now.moment =
    to_z-of_z w64 c.moment.result fits ∙ c.moment.ensures.in_range.1 ∙ ap pos c.moment.ensures.value in
    let query = question c.args.prepared.now.search.now in
    let arrival = c.args.prepared.now.arrival.now in
    let interrupt = c.in-Err-write_answer.interrupt in
    let status = c.report_interrupt-in-Err-write_answer.result in
    let source = change_of g.S.Source.left g.S.Source.faults c.args.src.now c.load_fresh.new.src in
    let output = change_of g.O.Sink.written g.O.Sink.faults c.args.out.now c.write_answer.new.out in
    let named = change_of g.E.Sink.written g.E.Sink.faults c.args.err.now c.load_fresh.new.err in
    let errors = change_of g.E.Sink.written g.E.Sink.faults c.args.err.now
    c.report_interrupt-in-Err-write_answer.new.err in
    reported arrival source _ _ _ _ _ _ query output interrupt status c.in-Ok.ensures.faults
    (unanswered query arrival _ moment source output named c.in-Ok.desk
    c.in-Ok.ensures.loaded c.in-Ok.ensures.settled interrupt c.in-Err-write_answer.ensures.stopped)
    c.report_interrupt-in-Err-write_answer.ensures

pub returns-clause-untouched : goal.returns-clause-untouched
returns-clause-untouched g c = λ _ not_fault.
    let errors = change_of g.E.Sink.written g.E.Sink.faults c.load_fresh.new.err
    c.report_interrupt-in-Err-write_answer.new.err in
    c.in-Err-write_answer.ensures.untouched
    (λ same. not_fault
    (subst (λ interrupt. ReportsInterrupt errors interrupt c.report_interrupt-in-Err-write_answer.result) same
    c.report_interrupt-in-Err-write_answer.ensures).0)
