use Rattle.lq_filter.proofs.Reading.{not_readable, readable_as_read}
use Rattle.lq_filter.proofs.Refusals.{refused_one}
use Rattle.lq_filter.proofs.pattern.Pattern.new.Goals as goal

pub returns-in-Err-Syntax-clause-refused : goal.returns-in-Err-Syntax-clause-refused
returns-in-Err-Syntax-clause-refused c =
    let w = c.in-Err-Syntax in
    λ tried reads. refused_one c.args.nth tried
    (λ can. not_readable c.args.text.now w.field-0-0.kind (rw w.field-0-is at w.ensures.kind)
    (w.ensures.by_grammar _ w.field-0-is) (reads can))

pub returns-in-Ok-clause-readable : goal.returns-in-Ok-clause-readable
returns-in-Ok-clause-readable c =
    let w = c.in-Ok in rw w.ensures.source at (readable_as_read w.regex w.ensures.config w.ensures.read)
