use Rattle.std.proofs.Common.{◌≡◌, Bool, true, false, is_le, [], ◌∷◌, ◌++◌, cond, get_or, take, ap, sym, ◌∙◌, arith}
use Rattle.std.proofs.lemmas.List.{length-take, take_more}
use Rattle.std.specs.List.{filter}
use Rattle.lq_tuple.proofs.Lists.{filter_more}
use Rattle.lq_order.specs.Column.{is_up_to}
use Rattle.lq_order.proofs.Columns.{take_whole}
use Rattle.lq_order.proofs.FirstPlaces.{has_first, taken_increases}
use Rattle.lq_order.proofs.first.up_to_nth.Goals as goal
use Rattle.lq_order.proofs.first.up_to_nth.Goals.{then-is_le+in_ok-push, else-is_le}

pub last_place-requires-clause-rising : goal.last_place-requires-clause-rising
last_place-requires-clause-rising c = taken_increases c.args.places.now c.args.sample c.requires.rising

pub last_place-requires-clause-within : goal.last_place-requires-clause-within
last_place-requires-clause-within c =
    omega (arith, length-take c.args.sample c.args.places.now, c.requires.within, c.requires.sampled)

pub loop-place-preserved : goal.loop-place-preserved
loop-place-preserved c =
    let keep = is_up_to c.args.columns.now c.in_ok-last.last in
    let places = c.args.places.now in
    let i = c.loop-place.place-index in
    let place = get_or places i 0 in
    let seen = take i places in
    let tests = c.is_le.ensures ∙ ap is_le c.compare_placed.ensures in
    let whole = ap (filter keep) (take_more places i 0 c.loop-place-test.true) ∙ filter_more keep seen place in
    let told = λ (t : Bool) (is : t ≡ c.is_le.result).
    whole ∙ ap (λ b. cond b (filter keep seen ++ place ∷ []) (filter keep seen)) (sym (is ∙ tests)) in
    elim c.if-is_le.branch [
      | then-is_le+in_ok-push w ↦
          ap (λ v. v.items) w.kept-is ∙ w.in_ok-push.ensures.items
          ∙ ap (λ kept. kept ++ place ∷ []) c.loop-place.invariant
          ∙ sym (told true (sym w.if-is_le.true))
      | else-is_le w ↦
          ap (λ v. v.items) w.kept-is ∙ c.loop-place.invariant ∙ sym (told false (sym w.if-is_le.false))
    ]

pub returns : goal.returns
returns c =
    let places = c.args.places.now in
    let all = c.loop-place.invariant ∙ ap (filter (is_up_to c.args.columns.now c.in_ok-last.last))
    (take_whole places c.loop-place.place-index (omega (arith, c.loop-place-test.false))) in
    has_first c.args.columns.now places c.args.sample c.args.most c.in_ok-last.last c.loop-place.kept.items
    c.requires.rising c.in_ok-last.ensures all
