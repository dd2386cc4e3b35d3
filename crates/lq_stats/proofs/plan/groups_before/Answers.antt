use Rattle.std.proofs.Common.{◌≡◌, ◌<◌, ◌∙◌, [], ap, length, map, subst, arith}
use Rattle.std.proofs.lemmas.Grind.{common_steps}
use Rattle.lq_stats.proofs.Gathering.{groups_begun, groups_empty, groups_none}
use Rattle.lq_stats.specs.Function.{scanned_statistic, statistic_of}
use Rattle.lq_stats.specs.Groups.{AreGroups}
use Rattle.lq_stats.specs.Key.{grouped_by}
use Rattle.lq_stats.specs.Plan.{opening}
use Rattle.lq_stats.proofs.plan.groups_before.Goals as goal

pub returns-then-not-is_empty : goal.returns-then-not-is_empty
returns-then-not-is_empty c =
    let some : 0 < length c.args.keys.now = grind (arith, common_steps, c.is_empty.ensures, c.if-not-is_empty.true) in
    groups_empty c.args.keys.now (map statistic_of c.args.functions.now) c.new-groups.result some
    c.new-groups.ensures.known c.new-groups.ensures.none

pub returns : goal.returns
returns c =
    let keys = map grouped_by c.args.keys.now in
    let statistics = map scanned_statistic c.as_slice.result.now in
    let none : length c.args.keys.now ≡ 0 = grind (arith, common_steps, c.is_empty.ensures, c.if-not-is_empty.false) in
    subst (λ ss. AreGroups keys ss c.place-2.new.self (opening keys) [])
    (ap (map scanned_statistic) c.as_slice.ensures.value ∙ c.in_ok-scans.ensures)
    (groups_begun c.args.keys.now statistics c.place-2.new.self _ c.in_ok-place.field-0 none
    (c.in_ok-place.ensures [] []
    (groups_none keys statistics c.new-groups.result c.new-groups.ensures.known c.new-groups.ensures.none)))
