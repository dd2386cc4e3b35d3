use Rattle.lq_filter.proofs.Refusals.{handed_on}
use Rattle.lq_filter.proofs.forms.pattern.Goals as goal

pub returns-in_err-pattern-clause-refused : goal.returns-in_err-pattern-clause-refused
returns-in_err-pattern-clause-refused c =
    handed_on c.from_residual.result _ _ c.from_residual.ensures.1
    (c.in_err-pattern.ensures.refused (c.args.text.now, c.args.text.now) (λ can. rw c.as_str.ensures.value can.0))
