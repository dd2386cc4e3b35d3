use Rattle.std.proofs.Common.{◌-◌, length}
use Rattle.day_parts.proofs.RunLaws.{AreSplit}
use Rattle.day_parts.proofs.splitting.day_parts.Given as goal

abbrev pub invariant-loop-start : goal.invariant-loop-start
invariant-loop-start l = AreSplit l.picks l.start l.days.items

abbrev pub decreases-loop-start : goal.decreases-loop-start
decreases-loop-start l = length l.picks - l.start
