use Rattle.std.proofs.Common.{◌∙◌, ap, map, take, true, rules}
use Rattle.std.proofs.lemmas.Result.{IfOk-weaker}
use Rattle.lq_ast.proofs.Sorted.{sorted_by_closure}
use Rattle.lq_ast.specs.Tuples.{sorted_by, tuple_cmp}
use Rattle.std.specs.Ordering.{on}
use Rattle.lq_tuple.specs.Groups.{group_tuple, keyed_group}
use Rattle.lq_order.specs.Groups.{counted_group}
use Rattle.lq_order.proofs.Answering.{keyed_most_first, most_first_total, top_made}
use Rattle.lq_order.proofs.tally.Tally.top.Goals as goal

pub returns : goal.returns
returns c =
    let p = c.args.p.now in
    let least = c.in_ok-least.least in
    let groups = c.in_ok-groups.groups.items in
    let keyed = c.in_ok-keyed.keyed.items in
    let sorted = sorted_by_closure keyed_most_first most_first_total keyed c.sort_by.new.self.items
    c.in_ok-sort_by.ensures.sorted c.sort_by.ensures.stable (λ a o f called. search rules) in
    IfOk-weaker c.records_of.result _ _
    (λ made e records h.
    e ∙ ap (λ ns. map (counted_group ns true) (map keyed_group c.kept-kept.result.now)) h.fields
    ∙ top_made p.names records p.n least h.tuples c.as_slice.result.now groups keyed c.sort_by.new.self.items
    c.kept-kept.result.now (c.in_ok-groups.ensures p.names records h) h.once
    (c.as_slice.ensures.value ∙ h.counted)
    c.in_ok-least.ensures (c.kept-kept.ensures ∙ ap (take p.n) c.as_slice-3.ensures.value) sorted
    (c.in_ok-keyed.ensures ∙ ap (sorted_by (on group_tuple tuple_cmp)) c.as_slice-2.ensures.value)) c.records_of.ensures
