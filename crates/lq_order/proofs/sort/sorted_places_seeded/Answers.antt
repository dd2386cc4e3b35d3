use Rattle.std.proofs.Common.{◌≡◌, length, refl, sym, ap, drop, ◌∙◌, subst}
use Rattle.std.proofs.lemmas.Result.{IfOk-weaker}
use Rattle.std.specs.List.{enumerate_from}
use Rattle.std.specs.Ordering.{on}
use Rattle.lq_ast.specs.PipeView.{sorting}
use Rattle.lq_ast.specs.Sorting.{at_most, record_cmp}
use Rattle.lq_ast.specs.Tuples.{sorted_by}
use Rattle.lq_order.specs.Places.{ArePlaces, places_in_order, sorted_places}
use Rattle.lq_order.proofs.Picked.{places_kept}
use Rattle.lq_order.proofs.SortedPlaces.{places_apart}
use Rattle.lq_order.proofs.sort.sorted_places_seeded.Goals as goal

kept_is : (c : goal.After-drop-places) → c.kept.result.now ≡ sorted_places (sorting c.args.p.now) c.args.records.now
kept_is c =
    let p = c.args.p.now in
    let keys = (sorting p).keys in
    let records = c.args.records.now in
    places_kept c.kept.result.now (places_in_order keys records) p.offset p.limit
    (sorted_by (on (λ p. p.1) (record_cmp keys)) (enumerate_from 0 records))
    (c.kept.ensures ∙ ap (λ ps. at_most p.limit (drop p.offset ps)) c.as_slice.ensures.value ∙ c.in_ok-places.ensures)
    refl

pub returns-clause-sorted : goal.returns-clause-sorted
returns-clause-sorted c = IfOk-weaker c.to_vec.result _ _
    (λ places same. same (λ x y e. e) ∙ kept_is c) c.to_vec.ensures.items_if_clones_equal

pub returns-clause-apart : goal.returns-clause-apart
returns-clause-apart c = IfOk-weaker c.to_vec.result _ _
    (λ places same. subst (ArePlaces (length c.args.records.now)) (sym (same (λ x y e. e) ∙ kept_is c))
    (places_apart (sorting c.args.p.now) c.args.records.now)) c.to_vec.ensures.items_if_clones_equal
