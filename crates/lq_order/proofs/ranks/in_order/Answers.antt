use Rattle.std.proofs.Common.{◌∙◌, ap, map, rules}
use Rattle.std.specs.Cmp.{on_total}
use Rattle.std.specs.Ordering.{on}
use Rattle.log_model.specs.Order.{key_cmp}
use Rattle.lq_ast.proofs.Sorted.{map_sorted, sorted_by_closure}
use Rattle.lq_ast.specs.Tuples.{sorted_by}
use Rattle.lq_order.specs.Ranks.{keyed_of}
use Rattle.lq_order.proofs.ranks.in_order.Goals as goal
use Rattle.vl_row.specs.KeyOrder.{key_cmp_total}

pub returns : goal.returns
returns c =
    let by_key = on (λ p. p.1) key_cmp in
    let total = on_total keyed_of (on_total (λ p. p.1) key_cmp_total) in
    let sorted = sorted_by_closure (on keyed_of by_key) total c.in_ok-keyed.keyed.items c.sort_by.new.self.items
    c.in_ok-sort_by.ensures.sorted c.sort_by.ensures.stable (λ a o f called. search rules) in
    ap (map keyed_of) sorted ∙ map_sorted keyed_of by_key c.in_ok-keyed.keyed.items
    ∙ ap (sorted_by by_key) c.in_ok-keyed.ensures
