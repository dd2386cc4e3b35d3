use Rattle.std.proofs.Common.{◌≡◌, ◌∙◌, ◌++◌, ◌∷◌, ℕ, List, ap, arith, drop, length, sym, take}
use Rattle.log_model.specs.History.{Numbered}
use Rattle.block_format.proofs.OrderLaws.{place-here, place-last, place-on}
use Rattle.block_format.proofs.said.place_of.Goals as goal

pub returns-then-comes_before-clause-place : goal.returns-then-comes_before-clause-place
returns-then-comes_before-clause-place c =
    place-here c.args.sorted.now c.args.row.now c.index-sorted-i.result c.loop-i.i c.loop-i-test.true
    c.index-sorted-i.is (sym c.comes_before.ensures ∙ c.if-comes_before.true) c.loop-i.invariant

pub loop-i-preserved : goal.loop-i-preserved
loop-i-preserved c =
    place-on c.args.sorted.now c.args.row.now c.index-sorted-i.result c.loop-i.i c.loop-i-test.true
    c.index-sorted-i.is (sym c.comes_before.ensures ∙ c.if-comes_before.false) c.loop-i.invariant

pub returns-clause-place : goal.returns-clause-place
returns-clause-place c =
    let sorted : List Numbered = c.args.sorted.now in
    let row : Numbered = c.args.row.now in
    let same : c.loop-i.i ≡ length c.args.sorted.now = omega arith in
    place-last c.args.sorted.now c.args.row.now c.loop-i.i c.loop-i-test.false c.loop-i.invariant
    ∙ ap (λ (k : ℕ). take k sorted ++ row ∷ drop k sorted) same
