use Rattle.std.proofs.Common.{◌++◌, ◌∷◌, length, subst, ap, ◌∙◌, rules, arith}
use Rattle.std.specs.List.Sorted.{IsPermutation}
use Rattle.lq_order.specs.Column.{columns_cmp, placed_cmp}
use Rattle.lq_order.proofs.FirstPlaces.{exact_split, placed_apart, rises_from, split_by_closure}
use Rattle.lq_order.proofs.Orders.{placed_cmp_total}
use Rattle.lq_order.proofs.first.last_place.Goals as goal

pub select_nth_unstable_by-last-requires-clause-in_bounds : goal.select_nth_unstable_by-last-requires-clause-in_bounds
select_nth_unstable_by-last-requires-clause-in_bounds c =
    let all = ap length (c.as_mut_slice.ensures.value ∙ c.in_ok-turned.ensures.items_if_clones_equal (λ x y e. e)) in
    omega (arith, all, c.requires.some, c.requires.within)

pub returns : goal.returns
returns c =
    let order = placed_cmp c.args.columns.now in
    let total = placed_cmp_total c.args.columns.now in
    let split = c.select_nth_unstable_by-last in
    let last = split.result.1.now in
    let front = split.result.0.now in
    let back = split.result.2.now in
    let places = c.args.places.now in
    let same = subst (λ xs. IsPermutation xs (front ++ last ∷ back))
    (c.as_mut_slice.ensures.value ∙ c.in_ok-turned.ensures.items_if_clones_equal (λ x y e. e))
    split.ensures.permutation in
    let around = split_by_closure order total front last back split.ensures.partitioned
    (λ a o f called. search rules) in
    let apart = placed_apart (columns_cmp c.args.columns.now) places (rises_from places c.requires.rising) in
    let exact = exact_split order total last places front back same apart around.0 around.1 in
    omega (arith, exact, split.ensures.front_len, c.requires.some)
