use Rattle.std.proofs.Common.{◌-◌, ◌<◌}
use Rattle.lq_filter.proofs.room.Room.build.Given as goal

abbrev pub invariant-loop-limit : goal.invariant-loop-limit
invariant-loop-limit l = 0 < l.limit

abbrev pub decreases-loop-limit : goal.decreases-loop-limit
decreases-loop-limit l = 10_485_760 - l.limit
