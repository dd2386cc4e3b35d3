use Rattle.std.proofs.Common.{◌≡◌, ◌+◌, List, map, take, ◌++◌, ◌∷◌, [], sym, ap, subst, ◌∙◌}
use Rattle.std.specs.Arc.{arc_value}
use Rattle.std.specs.List.{AllZip}
use Rattle.std.proofs.lemmas.List.{map-append}
use Rattle.std.proofs.lemmas.List.Elements.{all_zip_more}
use Rattle.day_model.specs.Days.{DayRows, LieInDay}
use Rattle.part_store.specs.State.{day_part_of}
use Rattle.merge_plan.specs.Grouping.{IsMerged}
use Rattle.merge_plan.proofs.MergeLaws.{job-apart}
use Rattle.merge_plan.proofs.group.merged.Goals as goal

pub merged-requires : goal.merged-requires
merged-requires c =
    job-apart c.args.jobs.now c.loop-job.job-index c.job-item.result c.requires c.loop-job-test.true c.job-item.is

pub loop-job-preserved : goal.loop-job-preserved
loop-job-preserved c =
    let before : List DayRows = map day_part_of c.loop-job.new.items in
    let part : DayRows = (c.day.result, arc_value c.in_ok-merged.field-0) in
    let pushed : map day_part_of c.push.new.self.items ≡ before ++ part ∷ [] =
    ap (map day_part_of) c.in_ok-push.ensures.items ∙ map-append day_part_of c.loop-job.new.items _ in
    subst (AllZip IsMerged (take (c.loop-job.job-index + 1) c.args.jobs.now)) (sym pushed)
    (all_zip_more IsMerged c.args.jobs.now before c.loop-job.job-index c.job-item.result part c.loop-job-test.true
    c.job-item.is c.loop-job.invariant (
      c.day.ensures,
      c.in_ok-merged.ensures.same,
      subst (λ d. LieInDay d part.1) (sym c.day.ensures) c.in_ok-merged.ensures.days,
    ))
