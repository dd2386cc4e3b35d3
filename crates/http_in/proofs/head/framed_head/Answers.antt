use Rattle.std.proofs.Common.{sym, ◌∙◌}
use Rattle.http_in.proofs.HeadLemmas.{framed_fault, framed_ok}
use Rattle.http_in.proofs.head.framed_head.Goals as goal

pub returns-in-Err-clause-fault : goal.returns-in-Err-clause-fault
returns-in-Err-clause-fault c =
    framed_fault c.args.front.now c.args.headers.now c.args.spans c.in-Err.fault c.requires.short
    c.requires.room c.requires.within c.requires.read
    (sym c.in-Err.is ∙ c.from_spans-facts.ensures.framing)

pub returns-in-Ok-clause-ok : goal.returns-in-Ok-clause-ok
returns-in-Ok-clause-ok c =
    framed_ok c.args.front.now c.args.headers.now c.args.spans c.in-Ok.framing c.from_spans-facts.result.form
    c.from_spans-facts.result.last
    c.requires.short c.requires.room c.requires.within c.requires.read
    (sym c.in-Ok.is ∙ c.from_spans-facts.ensures.framing) c.from_spans-facts.ensures.form
    c.from_spans-facts.ensures.last
