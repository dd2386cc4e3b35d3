use Rattle.std.proofs.Common.{[], length, get_or, map, ap, sym, ◌∙◌, subst}
use Rattle.std.proofs.lemmas.Result.{IfOk-weaker}
use Rattle.lq_ast.specs.PipeView.{sorting}
use Rattle.lq_ast.specs.Sorting.{sorted}
use Rattle.lq_order.specs.Places.{ArePlaces}
use Rattle.lq_order.proofs.SortedPlaces.{records_placed}
use Rattle.lq_order.proofs.sort.sort_recs_seeded.Goals as goal

pub moved-requires : goal.moved-requires
moved-requires c =
    subst (λ n. ArePlaces n c.as_slice-2.result.now) (ap length c.as_slice.ensures.value)
    (subst (ArePlaces (length c.as_slice.result.now)) (sym c.as_slice-2.ensures.value) c.in_ok-places.ensures.apart)

pub returns : goal.returns
returns c =
    let s = sorting c.args.p.now in
    let records = c.as_slice.result.now in
    let is = ap (λ items. map (λ place. get_or items place []) c.as_slice-2.result.now) (sym c.as_slice.ensures.value)
    ∙ ap (map (λ place. get_or records place [])) (c.as_slice-2.ensures.value ∙ c.in_ok-places.ensures.sorted)
    ∙ records_placed s records
    ∙ ap (sorted s) (c.as_slice.ensures.value ∙ c.into_vec-records.ensures) in
    IfOk-weaker c.moved.result _ _ (λ m e. e ∙ is) c.moved.ensures
