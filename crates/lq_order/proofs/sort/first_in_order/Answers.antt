use Rattle.std.proofs.Common.{◌≡◌, length, map, ap, sym, subst, take, ◌∙◌}
use Rattle.std.proofs.lemmas.Result.{IfOk-weaker}
use Rattle.std.specs.List.{range_with_len}
use Rattle.lq_ast.specs.PipeView.{sort_by}
use Rattle.lq_ast.specs.Sorting.{record_cmp}
use Rattle.lq_ast.specs.Tuples.{sorted_by}
use Rattle.lq_order.specs.Column.{columns_cmp}
use Rattle.lq_order.specs.Mirror.{Mirrors}
use Rattle.lq_order.proofs.FirstPlaces.{sorted_whole}
use Rattle.lq_order.proofs.Picked.{places_as_items}
use Rattle.lq_order.proofs.sort.first_in_order.Goals as goal

pub returns : goal.returns
returns c =
    let records = c.args.records.now in
    let columns = c.as_slice-2.result.now in
    let order = record_cmp (map sort_by c.args.keys.now) in
    let mirrors = subst (λ cs. Mirrors (columns_cmp cs) order records) (sym c.as_slice-2.ensures.value)
    c.in_ok-columns.ensures in
    let found = subst
    (λ cs. take c.args.most (sorted_by (columns_cmp cs) c.in_ok-places.places.items)
    ≡ take c.args.most (sorted_by (columns_cmp cs) (range_with_len 0 (length records))))
    (c.as_slice.ensures.value ∙ sym c.as_slice-2.ensures.value) c.in_ok-places.ensures.first in
    let whole = sorted_whole (columns_cmp columns) c.in_ok-places.places.items c.args.most
    c.in_ok-places.ensures.exact in
    let all = sym whole ∙ found ∙ ap (take c.args.most) (places_as_items records (columns_cmp columns) order mirrors) in
    IfOk-weaker c.in_order.result _ _ (λ places is. is ∙ all) c.in_order.ensures
