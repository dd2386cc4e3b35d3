use Rattle.std.proofs.Common.{map, take}
use Rattle.std.specs.List.{AllZip}
use Rattle.part_store.specs.State.{day_part_of}
use Rattle.merge_plan.specs.Grouping.{IsMerged}
use Rattle.merge_plan.proofs.group.merged.Given as goal

abbrev pub invariant-loop-job : goal.invariant-loop-job
invariant-loop-job l = AllZip IsMerged (take l.job-index l.jobs) (map day_part_of l.new.items)
