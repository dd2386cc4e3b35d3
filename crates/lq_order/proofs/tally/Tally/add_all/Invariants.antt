use Rattle.std.proofs.Common.{◌+◌, ◌++◌, ◌<◌, ◌^◌, List, ℕ, length, take}
use Rattle.lq_ast.specs.Records.{Record}
use Rattle.lq_order.specs.Tally.{Tallies}
use Rattle.lq_order.proofs.tally.Tally.add_all.Given as goal

abbrev pub invariant-loop-record : goal.invariant-loop-record
invariant-loop-record l =
    (names : List (List ℕ)) (before : List Record) → length before + length l.records < 2 ^ 64
    → Tallies l.initial.self names before → Tallies l.self names (before ++ take l.record-index l.records)
