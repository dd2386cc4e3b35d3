use Rattle.std.proofs.Common.{◌≡◌, ◌∙◌, ◌+◌, ◌-◌, ℕ, Bool, List, ap, arith, drop, sym}
use Rattle.std.specs.Prelude.{◌&&◌}
use Rattle.log_model.specs.History.{Numbered}
use Rattle.block_format.specs.Rows.{are_ordered}
use Rattle.block_format.proofs.OrderLaws.{ordered-at, ordered-end}
use Rattle.block_format.proofs.rules.are_ordered.Goals as goal

pub loop-i-preserved : goal.loop-i-preserved
loop-i-preserved c =
    let rows : List Numbered = c.args.rows.now in
    let i : ℕ = c.loop-i.i in
    let here : c.loop-i.i ≡ c.loop-i.i + 1 - 1 = omega arith in
    c.loop-i.invariant
    ∙ ordered-at c.args.rows.now c.loop-i.i c.index-rows-i.result c.index-rows-i-in-loop-i.result c.loop-i.auto.i
    c.loop-i-test.true c.index-rows-i.is c.index-rows-i-in-loop-i.is
    ∙ ap (λ (t : Bool). t && are_ordered (drop i rows)) (sym c.comes_before.ensures ∙ c.if-not-comes_before.false)
    ∙ ap (λ (k : ℕ). are_ordered (drop k rows)) here

pub returns : goal.returns
returns c = sym (c.loop-i.invariant ∙ ordered-end c.args.rows.now c.loop-i.i c.loop-i-test.false)
