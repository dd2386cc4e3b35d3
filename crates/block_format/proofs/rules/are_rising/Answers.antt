use Rattle.std.proofs.Common.{◌≡◌, false, refl, true}
use Rattle.block_format.proofs.NumberLaws.{not-rising, rising}
use Rattle.block_format.proofs.rules.are_rising.Goals as goal

pub returns-then-before-here-2 : goal.returns-then-before-here-2
returns-then-before-here-2 c = (
  λ t. absurd (let e : false ≡ true = t in cc),
  λ s. absurd (not-rising c.args.numbers.now c.loop-i.i (0, 0) c.loop-i.auto.i c.loop-i-test.true c.if-before-here.true
      c.if-before-here-2.true s),
)

pub returns : goal.returns
returns c = (λ t. rising c.args.numbers.now c.loop-i.i c.loop-i-test.false c.loop-i.invariant, λ s. refl)
