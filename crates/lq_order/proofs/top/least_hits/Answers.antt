use Rattle.std.proofs.Common.{◌∙◌, subst}
use Rattle.lq_order.specs.Groups.{IsNthGreatest}
use Rattle.lq_order.proofs.top.least_hits.Goals as goal

pub returns : goal.returns
returns c =
    subst (IsNthGreatest c.args.n c.nth_greatest.result)
    (c.as_mut_slice.ensures.value ∙ c.in_ok-numbers.ensures.items_if_clones_equal (λ x y e. e)) c.nth_greatest.ensures
