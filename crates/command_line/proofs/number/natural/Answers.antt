use Rattle.command_line.proofs.Numbers.{below_zero, no_natural}
use Rattle.command_line.proofs.number.natural.Goals as goal

pub returns-in_err-number-clause-none : goal.returns-in_err-number-clause-none
returns-in_err-number-clause-none c =
    rw c.from_residual.ensures (no_natural c.args.text.now c.in_err-number.ensures.none)

pub returns-clause-none : goal.returns-clause-none
returns-clause-none c =
    let text = c.args.text.now in
    rw c.ok.ensures.value (below_zero text _ _ c.in_ok-number.ensures.some c.try_from.ensures)
