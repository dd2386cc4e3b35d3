use Rattle.std.proofs.Common.{◌∙◌, ap, map}
use Rattle.std.proofs.lemmas.Result.{IfOk-weaker}
use Rattle.std.specs.Ordering.{on}
use Rattle.lq_ast.specs.Sorting.{at_most}
use Rattle.lq_ast.specs.Tuples.{sorted_by, tuple_cmp}
use Rattle.lq_tuple.specs.Groups.{group_tuple, keyed_group}
use Rattle.lq_order.specs.Groups.{counted_group}
use Rattle.lq_order.proofs.Answering.{uniq_made}
use Rattle.lq_order.proofs.tally.Tally.uniq.Goals as goal

pub returns : goal.returns
returns c = IfOk-weaker c.records_of.result _ _
    (λ made e records h.
    let p = c.args.p.now in
    e ∙ ap (λ ns. map (counted_group ns p.hits) (map keyed_group c.kept-kept.result.now)) h.fields
    ∙ uniq_made p.names records p.hits p.limit c.in_ok-groups.groups.items c.in_ok-keyed.keyed.items
    c.kept-kept.result.now (c.in_ok-groups.ensures p.names records h)
    (c.kept-kept.ensures ∙ ap (at_most p.limit) c.as_slice-2.ensures.value)
    (c.in_ok-keyed.ensures ∙ ap (sorted_by (on group_tuple tuple_cmp)) c.as_slice.ensures.value))
    c.records_of.ensures
