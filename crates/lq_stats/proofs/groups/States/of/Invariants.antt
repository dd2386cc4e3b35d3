use Rattle.std.proofs.Common.{[], map, take}
use Rattle.lq_stats.specs.Function.{scanned_statistic}
use Rattle.lq_stats.specs.Groups.{AreStates}
use Rattle.lq_stats.proofs.groups.States.of.Given as goal

abbrev pub invariant-loop-scan : goal.invariant-loop-scan
invariant-loop-scan l = AreStates (map scanned_statistic (take l.scan-index l.scans)) l.list.items []
