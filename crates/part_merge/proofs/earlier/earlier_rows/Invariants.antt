use Rattle.std.proofs.Common.{◌≡◌, ◌-◌, ◌<◌, ◌≤◌, length, take, true}
use Rattle.part_merge.specs.Before.{are_before}
use Rattle.part_merge.proofs.earlier.earlier_rows.Given as goal

abbrev pub invariant-loop-low : goal.invariant-loop-low
invariant-loop-low l = record {
  some : 0 < l.low;
  there : l.low ≤ length l.pick;
  within : l.high < length l.pick;
  before : are_before (take l.low l.pick) (take 1 l.other) ≡ true;
}

abbrev pub decreases-loop-low : goal.decreases-loop-low
decreases-loop-low l = l.high - l.low
