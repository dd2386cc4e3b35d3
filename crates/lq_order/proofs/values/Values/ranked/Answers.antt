use Rattle.std.proofs.Common.{ap, map, ◌∙◌, subst}
use Rattle.std.specs.List.{slice_index}
use Rattle.std.specs.Ordering.{nat_cmp, on}
use Rattle.log_model.specs.Order.{value_cmp}
use Rattle.lq_order.specs.Mirror.{Mirrors}
use Rattle.lq_order.proofs.values.Values.ranked.Goals as goal

pub returns : goal.returns
returns c =
    let texts = ap (map (λ text. text.now)) c.as_slice.ensures.value ∙ c.in_ok-texts.ensures in
    subst (Mirrors (on (slice_index c.in_ok-ranks.field-0.items) nat_cmp) value_cmp) texts c.in_ok-ranks.ensures
