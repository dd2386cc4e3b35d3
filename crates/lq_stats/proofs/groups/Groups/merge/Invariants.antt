use Rattle.std.proofs.Common.{◌≡◌, ◌+◌, ◌≤◌, ◌^◌, List, length, take}
use Rattle.lq_ast.specs.Records.{Record}
use Rattle.lq_ast.specs.Stage.{GroupBy, Statistic}
use Rattle.lq_ast.specs.Tuples.{Tuple}
use Rattle.lq_stats.proofs.Joining.{Joining}
use Rattle.lq_stats.specs.Groups.{AreGroups, AskFewFields}
use Rattle.lq_stats.proofs.groups.Groups.merge.Given as goal

abbrev pub invariant-loop-kept : goal.invariant-loop-kept
invariant-loop-kept l = record {
  few : length l.states.items ≤ length l.fn.other.states.items;
  left : l.states.items ≡ take (length l.states.items) l.fn.other.states.items;
  joining : (keys : List GroupBy) (statistics : List Statistic) (more : List Tuple) (records others : List Record)
      → AskFewFields statistics → length records + length others ≤ 2 ^ 32
      → AreGroups keys statistics l.initial.self more records
      → (h : AreGroups keys statistics l.fn.other more others)
      → Joining keys statistics more records others h.tuples h.once l.self (length l.states.items);
}

abbrev pub decreases-loop-kept : goal.decreases-loop-kept
decreases-loop-kept l = length l.states.items
