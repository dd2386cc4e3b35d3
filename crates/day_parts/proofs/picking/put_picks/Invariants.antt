use Rattle.std.proofs.Common.{◌≡◌, ◌++◌, ◌<◌, ◌≤◌, length, take}
use Rattle.day_model.specs.Days.{AreOfTheirDays}
use Rattle.day_parts.specs.Runs.{IsOfOneDay, all_rows}
use Rattle.day_parts.proofs.picking.put_picks.Given as goal

abbrev pub invariant-loop-end : goal.invariant-loop-end
invariant-loop-end l = record {
  some : 0 < l.end;
  there : l.end ≤ length l.rest;
  day : IsOfOneDay (take l.end l.rest);
  rows : all_rows l.picks.items ++ l.rest ≡ all_rows l.initial.picks.items ++ l.block;
  days : AreOfTheirDays l.initial.picks.items → AreOfTheirDays l.picks.items;
}

abbrev pub decreases-loop-end : goal.decreases-loop-end
decreases-loop-end l = length l.rest
