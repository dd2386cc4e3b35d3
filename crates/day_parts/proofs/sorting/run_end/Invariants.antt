use Rattle.std.proofs.Common.{◌≡◌, ◌-◌, ◌<◌, ◌≤◌, length, take}
use Rattle.std.specs.List.{AllByRecursion}
use Rattle.day_model.specs.Days.{DayRows}
use Rattle.day_parts.specs.Runs.{next_day}
use Rattle.day_parts.proofs.sorting.run_end.Given as goal

abbrev pub invariant-loop-end : goal.invariant-loop-end
invariant-loop-end l = record {
  some : 0 < l.end;
  there : l.end ≤ length l.picks;
  same : AllByRecursion (λ (rows : DayRows). rows.0 ≡ next_day l.picks) (take l.end l.picks);
}

abbrev pub decreases-loop-end : goal.decreases-loop-end
decreases-loop-end l = length l.picks - l.end
