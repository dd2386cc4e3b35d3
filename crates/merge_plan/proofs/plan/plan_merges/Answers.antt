use Rattle.std.proofs.Common.{◌++◌, List, [], map, sym, subst}
use Rattle.std.specs.Prelude.{IsTrue}
use Rattle.std.specs.Arc.{arc_value}
use Rattle.std.specs.List.{AllZip}
use Rattle.std.proofs.lemmas.List.Folds.{flat_map-map}
use Rattle.block_format.specs.Rows.{are_numbered_apart}
use Rattle.log_model.specs.History.{Numbered}
use Rattle.day_model.specs.Days.{DayRows}
use Rattle.part_store.specs.State.{day_part_of, listed_of}
use Rattle.merge_plan.specs.Planned.{rows_of_listed, rows_of_parts}
use Rattle.merge_plan.specs.Grouping.{IsGrouped, IsMerged}
use Rattle.merge_plan.proofs.MergeLaws.{merged-days}
use Rattle.merge_plan.proofs.PlanLaws.{groups-apart, joins-days, keeps-rows}
use Rattle.merge_plan.proofs.plan.plan_merges.Goals as goal

pub merged-requires : goal.merged-requires
merged-requires c =
    let listed = map listed_of c.args.stored.now in
    let batches : List (List Numbered) = map arc_value c.args.batches.now in
    let pieces : List DayRows = map day_part_of c.in_ok-pieces.pieces.items in
    let files = c.in_ok-groups.groups.files.items in
    let jobs : List DayRows = c.in_ok-groups.groups.jobs.items in
    let grouped = subst (λ l. IsGrouped listed
    (map day_part_of l) [] files jobs) c.as_slice.ensures.value c.in_ok-groups.ensures in
    let apart = subst (λ (l : List Numbered). IsTrue (are_numbered_apart (rows_of_listed listed ++ l)))
    (sym (flat_map-map (λ (batch : List Numbered). batch) arc_value c.args.batches.now)) c.requires.apart in
    subst (λ (l : List DayRows). IsTrue (are_numbered_apart (rows_of_parts l))) (sym c.as_slice-2.ensures.value)
    (groups-apart listed batches pieces files jobs c.in_ok-pieces.ensures.pieces grouped apart)

pub returns : goal.returns
returns c =
    let listed = map listed_of c.args.stored.now in
    let batches : List (List Numbered) = map arc_value c.args.batches.now in
    let pieces : List DayRows = map day_part_of c.in_ok-pieces.pieces.items in
    let files = c.in_ok-groups.groups.files.items in
    let jobs : List DayRows = c.in_ok-groups.groups.jobs.items in
    let new : List DayRows = map day_part_of c.in_ok-new.new.items in
    let grouped = subst (λ l. IsGrouped listed
    (map day_part_of l) [] files jobs) c.as_slice.ensures.value c.in_ok-groups.ensures in
    let merged = subst (λ (l : List DayRows). AllZip IsMerged l new) c.as_slice-2.ensures.value c.in_ok-new.ensures in
    record {
      rows = keeps-rows listed batches pieces files jobs new c.in_ok-pieces.ensures.pieces grouped merged;
      days = merged-days jobs new merged;
      listed = grouped.files;
      weights = joins-days listed batches pieces files jobs new c.in_ok-pieces.ensures.pieces grouped merged;
    }
