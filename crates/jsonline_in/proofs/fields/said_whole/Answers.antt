use Rattle.std.proofs.Common.{true}
use Rattle.jsonline_in.specs.Reading.{text_at}
use Rattle.jsonline_in.proofs.Known.{all_members_sure, finished_reads, memory_fails}
use Rattle.jsonline_in.proofs.fields.said_whole.Goals as goal

pub returns-in-Ok-clause-says : goal.returns-in-Ok-clause-says
returns-in-Ok-clause-says c =
    finished_reads (λ said. said.fields) (λ said. said.far) c.args.inside.now true c.in-Ok.noting c.finished.result
    c.in-Ok.ensures.says (all_members_sure c.args.inside.now c.in-Ok.noting c.in-Ok.ensures.says) c.finished.ensures.ok

pub returns-in-Ok-clause-fails : goal.returns-in-Ok-clause-fails
returns-in-Ok-clause-fails c = memory_fails c.finished.result (text_at c.args.inside.now) c.finished.ensures.err
