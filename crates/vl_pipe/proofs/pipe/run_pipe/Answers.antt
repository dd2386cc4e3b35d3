use Rattle.vl_io.specs.Change.{change_of}
use Rattle.lone_desk.specs.Question.{question}
use Rattle.vl_pipe.proofs.PipeLemmas.{ends_readable}
use Rattle.vl_pipe.proofs.pipe.run_pipe.Goals as goal

pub returns-in-Ok-clause-ends : goal.returns-in-Ok-clause-ends
returns-in-Ok-clause-ends g c =
    let query = question c.in-Ok.search in
    let source = change_of g.S.Source.left g.S.Source.faults c.args.src.now c.answer_input.new.src in
    let output = change_of g.O.Sink.written g.O.Sink.faults c.args.out.now c.answer_input.new.out in
    let errors = change_of g.E.Sink.written g.E.Sink.faults c.args.err.now c.answer_input.new.err in
    ends_readable c.args.asked.now source output errors c.answer_input.result c.as_str.result.now query
    c.as_str.ensures.value c.in-Ok.ensures.read c.in-Ok.ensures.patterns c.in-Ok.ensures.unasked
    c.answer_input.ensures.ends
