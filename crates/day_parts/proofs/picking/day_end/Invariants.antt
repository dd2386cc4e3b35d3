use Rattle.std.proofs.Common.{◌-◌, ◌<◌, ◌≤◌, length, take}
use Rattle.day_model.specs.Days.{LieInDay}
use Rattle.day_parts.specs.Runs.{first_day}
use Rattle.day_parts.proofs.picking.day_end.Given as goal

abbrev pub invariant-loop-low : goal.invariant-loop-low
invariant-loop-low l = record {
  some : 0 < l.low;
  there : l.low ≤ length l.rows;
  within : l.high < length l.rows;
  day : LieInDay (first_day l.rows) (take l.low l.rows);
}

abbrev pub decreases-loop-low : goal.decreases-loop-low
decreases-loop-low l = l.high - l.low
