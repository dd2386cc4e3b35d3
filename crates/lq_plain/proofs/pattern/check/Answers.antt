use Rattle.lq_plain.proofs.Reading.{not_readable, readable_as_read}
use Rattle.lq_plain.proofs.pattern.check.Goals as goal

pub returns-in-Ok-clause-readable : goal.returns-in-Ok-clause-readable
returns-in-Ok-clause-readable c =
    let w = c.in-Ok in rw w.ensures.source at (readable_as_read w.regex w.ensures.config w.ensures.read)

pub returns-in-Err-Syntax-clause-unreadable : goal.returns-in-Err-Syntax-clause-unreadable
returns-in-Err-Syntax-clause-unreadable c =
    let w = c.in-Err-Syntax in
    λ _. not_readable c.args.pattern.now w.field-0-0.kind (rw w.field-0-is at w.ensures.kind)
    (w.ensures.by_grammar _ w.field-0-is)
