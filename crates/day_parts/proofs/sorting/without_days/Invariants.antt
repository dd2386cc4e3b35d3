use Rattle.std.proofs.Common.{◌≡◌, map, take}
use Rattle.day_model.specs.Days.{DayRows}
use Rattle.day_parts.proofs.sorting.without_days.Given as goal

abbrev pub invariant-loop-pick : goal.invariant-loop-pick
invariant-loop-pick l = l.rows.items ≡ map (λ (r : DayRows). r.1) (take l.pick-index l.picks)
