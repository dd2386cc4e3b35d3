use Rattle.std.proofs.Common.{◌≡◌, ◌++◌, ◌+◌, ◌-◌, drop, flat_map, length, map, sym, ap, ◌∙◌, arith, length-append}
use Rattle.std.specs.Arc.{arc_value}
use Rattle.std.proofs.lemmas.List.Folds.{flat_map-map}
use Rattle.log_model.specs.Core.{count_of, parts_of}
use Rattle.block_format.specs.Rows.{are_numbered_apart}
use Rattle.merge_plan.specs.Planned.{rows_of_listed}
use Rattle.part_store.specs.State.{day_part_of, listed_of}
use Rattle.log_desk.proofs.KeepLaws.{later_parts, planned}
use Rattle.log_desk.proofs.keeper.plan_of.Goals as goal

pub plan_merges-requires-clause-apart : goal.plan_merges-requires-clause-apart
plan_merges-requires-clause-apart c =
    let look = c.args.look.now in
    let both = length-append look.days look.unsettled in
    let from = c.len.result - (c.front.result - c.args.front) in
    let long : from + (count_of look - c.args.front) ≡ length (parts_of look) =
    omega (arith, both, c.len.ensures, c.front.ensures.value, c.requires.front.0, c.requires.front.1) in
    let later = later_parts look c.args.front from c.requires.front.0 c.requires.front.1 long in
    ap (λ rows. are_numbered_apart (rows_of_listed (map listed_of c.args.stored.now) ++ rows))
    (ap (flat_map arc_value) c.as_slice.ensures.value
    ∙ sym (flat_map-map (λ rows. rows) arc_value c.in_ok-batches.batches.items)
    ∙ ap (flat_map (λ rows. rows)) (c.in_ok-batches.ensures ∙ later)) ∙ c.requires.apart

pub returns : goal.returns
returns c =
    let look = c.args.look.now in
    let both = length-append look.days look.unsettled in
    let from = c.len.result - (c.front.result - c.args.front) in
    let long : from + (count_of look - c.args.front) ≡ length (parts_of look) =
    omega (arith, both, c.len.ensures, c.front.ensures.value, c.requires.front.0, c.requires.front.1) in
    let later = later_parts look c.args.front from c.requires.front.0 c.requires.front.1 long in
    let ensures = c.plan_merges.ensures in
    planned c.plan_merges.result (map listed_of c.args.stored.now) (map arc_value c.as_slice.result.now)
    (drop (c.args.front - look.settled) look.unsettled) (λ plan. plan.old.items)
    (λ plan. map day_part_of plan.new.items)
    (ap (map arc_value) c.as_slice.ensures.value ∙ c.in_ok-batches.ensures ∙ later) ensures.rows ensures.days
    ensures.listed ensures.weights
