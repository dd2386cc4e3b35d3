use Rattle.std.proofs.Common.{ap, drop, length, map, take, ◌∙◌, arith}
use Rattle.std.proofs.lemmas.Result.{IfOk-weaker}
use Rattle.lq_ast.specs.PipeView.{sort_by}
use Rattle.lq_ast.specs.Sorting.{at_most}
use Rattle.lq_order.specs.Places.{IsWanted, places_in_order}
use Rattle.lq_order.proofs.FirstPlaces.{kept_of_first}
use Rattle.lq_order.proofs.sort.enough_in_order.Goals as goal

pub first_in_order-requires-clause-some : goal.first_in_order-requires-clause-some
first_in_order-requires-clause-some c =
    let wanted : IsWanted c.args.p.now.offset c.args.p.now.limit (length c.args.records.now) c.in-Some.most =
    c.in-Some.ensures in
    wanted.some

pub first_in_order-requires-clause-within : goal.first_in_order-requires-clause-within
first_in_order-requires-clause-within c =
    let wanted : IsWanted c.args.p.now.offset c.args.p.now.limit (length c.args.records.now) c.in-Some.most =
    c.in-Some.ensures in
    omega (arith, wanted.few)

pub returns-in-Some : goal.returns-in-Some
returns-in-Some c =
    let p = c.args.p.now in
    let records = c.args.records.now in
    let most = c.in-Some.most in
    let all = ap (λ keys. take most (places_in_order (map sort_by keys) records)) c.as_slice.ensures in
    IfOk-weaker c.first_in_order.result _ _
    (λ places is. ap (λ ps. at_most p.limit (drop p.offset ps)) (is ∙ all)
    ∙ kept_of_first (places_in_order (map sort_by p.keys) records) p.offset p.limit (length records) most
    c.in-Some.ensures)
    c.first_in_order.ensures

pub returns-in-None : goal.returns-in-None
returns-in-None c =
    let p = c.args.p.now in
    let all = ap (λ keys. places_in_order (map sort_by keys) c.args.records.now) c.as_slice-in-None.ensures in
    IfOk-weaker c.all_in_order.result _ _ (λ places is. ap (λ ps. at_most p.limit (drop p.offset ps)) (is ∙ all))
    c.all_in_order.ensures
