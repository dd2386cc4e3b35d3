use Rattle.jsonline_in.specs.Reading.{text_at}
use Rattle.jsonline_in.proofs.Known.{any_reads, finished_reads, memory_fails}
use Rattle.std.proofs.Common.{sym, ◌∙◌}
use Rattle.jsonline_in.proofs.fields.read_inside.Goals as goal

pub returns-then-is_sure-clause-says : goal.returns-then-is_sure-clause-says
returns-then-is_sure-clause-says c =
    finished_reads (λ said. said.fields) (λ said. said.far) c.args.inside.now c.args.all c.in-Ok.noting
    c.finished.result c.in-Ok.ensures.says (sym c.is_sure.ensures ∙ c.if-is_sure.true) c.finished.ensures.ok

pub returns-then-is_sure-clause-fails : goal.returns-then-is_sure-clause-fails
returns-then-is_sure-clause-fails c =
    memory_fails c.finished.result (text_at c.args.inside.now) c.finished.ensures.err

pub returns-else-is_sure-clause-says : goal.returns-else-is_sure-clause-says
returns-else-is_sure-clause-says c =
    any_reads (λ said. said.fields) (λ said. said.far) c.args.inside.now c.args.all c.said_whole.result
    c.said_whole.ensures.says
