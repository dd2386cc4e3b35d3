use Rattle.std.proofs.Common.{◌++◌, [], ◌∷◌, ◌∙◌, ap, sym, arith}
use Rattle.std.specs.List.{range_with_len}
use Rattle.lq_order.proofs.Places.{range_more}
use Rattle.lq_order.proofs.first.all_places.Goals as goal

pub loop-place-preserved : goal.loop-place-preserved
loop-place-preserved c =
    c.in_ok-push.ensures.items ∙ ap (λ places. places ++ c.loop-place.place ∷ []) c.loop-place.invariant
    ∙ sym (range_more 0 c.loop-place.place c.loop-place.place (omega arith))

pub returns : goal.returns
returns c =
    c.loop-place.invariant
    ∙ ap (range_with_len 0) (omega (arith, c.loop-place-test.false, c.loop-place.auto.place-end))
