use Rattle.std.proofs.Common.{arith}
use Rattle.command_line.proofs.Numbers.{same_number}
use Rattle.command_line.proofs.number.number_between.Goals as goal

pub returns-in_default-clause-none : goal.returns-in_default-clause-none
returns-in_default-clause-none c = λ number h.
    let same = same_number c.args.least c.args.most _ _ _ c.in-Some.ensures.some c.requires h in
    absurd (omega (arith, same.0, same.2, c.if-number-most.false))

pub returns-in_default-2-clause-none : goal.returns-in_default-2-clause-none
returns-in_default-2-clause-none c = λ number h.
    let same = same_number c.args.least c.args.most _ _ _ c.in-Some.ensures.some c.requires h in
    absurd (omega (arith, same.0, same.1, c.if-least-number.false))
