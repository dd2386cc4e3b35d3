use Rattle.std.proofs.Common.{◌≡◌, ◌-◌, Some, ap, arith, sym, take, ◌∙◌}
use Rattle.lq_plain.proofs.Splitting.{cut_after, cut_before, later_first, later_more, split_found, split_missing}
use Rattle.lq_plain.proofs.extract.split_once.Goals as goal

pub loop-place-init : goal.loop-place-init
loop-place-init c = later_first c.args.text.now c.args.value.now

pub loop-place-preserved : goal.loop-place-preserved
loop-place-preserved c =
    later_more c.args.text.now c.args.value.now c.loop-place.place c.loop-place.invariant
    (sym c.starts_at.ensures ∙ c.if-starts_at.false)

pub range-requires-clause-end_boundary : goal.range-requires-clause-end_boundary
range-requires-clause-end_boundary c =
    cut_before c.args.text.now c.args.value.now c.loop-place.place c.utf8.text c.utf8.value c.loop-place.invariant
    (sym c.starts_at.ensures ∙ c.if-starts_at.true)

pub range_from-requires : goal.range_from-requires
range_from-requires c =
    λ _. cut_after c.args.text.now c.args.value.now c.loop-place.place c.utf8.text c.utf8.value c.loop-place.invariant
    (sym c.starts_at.ensures ∙ c.if-starts_at.true)

pub returns-then-starts_at : goal.returns-then-starts_at
returns-then-starts_at c =
    let found = split_found c.args.text.now c.args.value.now c.loop-place.place c.loop-place.invariant (omega arith)
    (sym c.starts_at.ensures ∙ c.if-starts_at.true) in
    let whole : c.loop-place.place - 0 ≡ c.loop-place.place = omega arith in
    let front = c.range.ensures.value ∙ ap (λ n. take n c.args.value.now) whole in
    let back = c.range_from.ensures.value in
    sym (found ∙ (λ i. Some (sym front i, sym back i)))

pub returns : goal.returns
returns c =
    sym (split_missing c.args.text.now c.args.value.now c.loop-place.place c.loop-place.invariant (omega arith))
