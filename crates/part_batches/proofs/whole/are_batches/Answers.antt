use Rattle.std.proofs.Common.{◌≡◌, ◌∙◌, ◌<◌, ap, arith, false, length, map, true}
use Rattle.std.specs.Arc.{arc_value}
use Rattle.part_model.specs.Filling.{rows_in_blocks}
use Rattle.part_batches.specs.Counted.{are_counted}
use Rattle.part_batches.proofs.WholeLaws.{counted-is, few-rows}
use Rattle.part_batches.proofs.whole.are_batches.Goals as goal

pub returns-then-rows-front : goal.returns-then-rows-front
returns-then-rows-front c =
    let count = c.rows_of-rows.ensures in
    let below = c.if-rows-front.true in
    let fits = c.ranges.front.fits in
    let few : length (rows_in_blocks (map arc_value c.args.parts.now)) < c.args.front = omega (arith, count, below, fits) in (
      λ t. absurd (let e : false ≡ true = t in cc),
      λ h. absurd (few-rows c.args.front (map arc_value c.args.parts.now) few h),
    )

pub returns : goal.returns
returns c =
    counted-is c.args.front (map arc_value c.args.parts.now) c.in_ok-numbers.numbers.items c.sort.new.self.items
    c.in_ok-numbers.ensures c.in_ok-sort.ensures.permutation c.in_ok-sort.ensures.sorted c.are_counted.result
    (c.are_counted.ensures ∙ ap (are_counted c.args.front 0 0) c.deref.ensures.value)
