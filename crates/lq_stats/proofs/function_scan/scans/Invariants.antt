use Rattle.std.proofs.Common.{◌≡◌, map, take}
use Rattle.lq_stats.specs.Function.{scanned_statistic, statistic_of}
use Rattle.lq_stats.proofs.function_scan.scans.Given as goal

abbrev pub invariant-loop-function : goal.invariant-loop-function
invariant-loop-function l =
    map scanned_statistic l.scans.items ≡ map statistic_of (take l.function-index l.functions)
