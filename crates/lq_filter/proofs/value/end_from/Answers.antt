use Rattle.std.proofs.Common.{rules, ◌<◌, length}
use Rattle.lq_filter.proofs.Order.{in_order-empty, in_order-found, in_order-missing}
use Rattle.lq_filter.proofs.value.end_from.Goals as goal

pub returns-then-is_empty-clause-others : goal.returns-then-is_empty-clause-others
returns-then-is_empty-clause-others c = λ more. in_order-empty c.args.value.now c.args.phrase.now more c.args.from
    (search rules)

pub returns-in_err-place-clause-others : goal.returns-in_err-place-clause-others
returns-in_err-place-clause-others c =
    let filled : 0 < length c.args.phrase.now = search rules in
    λ more. rw c.from_residual.ensures (in_order-missing c.args.value.now c.args.phrase.now more c.args.from filled
    c.in_err-place.ensures.first)

pub returns-clause-others : goal.returns-clause-others
returns-clause-others c =
    let filled : 0 < length c.args.phrase.now = search rules in
    λ more. rw c.len.ensures (in_order-found c.args.value.now c.args.phrase.now more c.args.from c.in_ok-place.place
    filled c.in_ok-place.ensures.first)
