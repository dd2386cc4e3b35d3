use Rattle.std.proofs.Common.{◌≡◌, ◌+◌, ◌++◌, ◌≤◌, ◌^◌, List, length, map, take}
use Rattle.lq_ast.specs.Records.{Record}
use Rattle.lq_ast.specs.Tuples.{Tuple}
use Rattle.lq_stats.specs.Function.{scanned_statistic}
use Rattle.lq_stats.specs.Groups.{AreGroups}
use Rattle.lq_stats.specs.Key.{grouped_by}
use Rattle.lq_stats.proofs.groups.Groups.add_all.Given as goal

abbrev pub invariant-loop-record : goal.invariant-loop-record
invariant-loop-record l =
    (map scanned_statistic l.scans ≡ map scanned_statistic l.initial.scans)
    × ((more : List Tuple) (records : List Record) → length records + length l.records ≤ 2 ^ 32
    → AreGroups (map grouped_by l.keys) (map scanned_statistic l.initial.scans) l.initial.self more records
    → AreGroups (map grouped_by l.keys) (map scanned_statistic l.initial.scans) l.self more
    (records ++ take l.record-index l.records))
