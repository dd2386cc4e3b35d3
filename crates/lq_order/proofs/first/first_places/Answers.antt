use Rattle.std.proofs.Common.{ap, refl, sym, subst, length, ◌∙◌, arith}
use Rattle.std.proofs.lemmas.List.FromFn.{length-range_with_len}
use Rattle.std.proofs.lemmas.Result.{IfOk-weaker}
use Rattle.std.specs.List.{range_with_len}
use Rattle.std.specs.List.Sorted.{IsStrictlyIncreasing}
use Rattle.lq_order.specs.First.{HasFirst}
use Rattle.lq_order.proofs.FirstPlaces.{range_increases}
use Rattle.lq_order.proofs.first.first_places.Goals as goal
use Rattle.lq_order.proofs.first.first_places.Goals.{After-drop-all-2}

pub up_to_nth-requires-clause-rising : goal.up_to_nth-requires-clause-rising
up_to_nth-requires-clause-rising c =
    subst IsStrictlyIncreasing (sym (c.as_slice.ensures.value ∙ c.in_ok-all.ensures)) (range_increases c.args.count)

pub up_to_nth-requires-clause-sampled : goal.up_to_nth-requires-clause-sampled
up_to_nth-requires-clause-sampled c =
    let all = ap length (c.as_slice.ensures.value ∙ c.in_ok-all.ensures) in
    omega (arith, all, length-range_with_len 0 c.args.count, c.min-sample.ensures)

one_pass : (c : After-drop-all-2)
    → HasFirst c.args.columns.now (range_with_len 0 c.args.count) c.min-sample.result c.args.most
    c.as_slice-near.result.now
one_pass c =
    subst (HasFirst c.args.columns.now (range_with_len 0 c.args.count) c.min-sample.result c.args.most)
    (sym c.as_slice-near.ensures.value)
    (subst (λ ps. HasFirst c.args.columns.now ps c.min-sample.result c.args.most c.in_ok-near.near.items)
    (c.as_slice.ensures.value ∙ c.in_ok-all.ensures) c.in_ok-near.ensures)

pub returns-clause-first : goal.returns-clause-first
returns-clause-first c =
    IfOk-weaker c.up_to_nth-2.result _ _ (λ places two. two.first ∙ (one_pass c).first) c.up_to_nth-2.ensures

pub returns-clause-exact : goal.returns-clause-exact
returns-clause-exact c = IfOk-weaker c.up_to_nth-2.result _ _ (λ places two. two.exact refl) c.up_to_nth-2.ensures
