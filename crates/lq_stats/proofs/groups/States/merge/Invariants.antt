use Rattle.std.proofs.Common.{◌≡◌, ◌≤◌, length, take}
use Rattle.lq_stats.proofs.JoinedStates.{AreJoined}
use Rattle.lq_stats.proofs.groups.States.merge.Given as goal

abbrev pub invariant-loop-state : goal.invariant-loop-state
invariant-loop-state l = record {
  few : length l.list.items ≤ length l.fn.other.list.items;
  left : l.list.items ≡ take (length l.list.items) l.fn.other.list.items;
  joined : AreJoined l.initial.self.list.items l.fn.other.list.items l.self.list.items (length l.list.items);
}

abbrev pub decreases-loop-state : goal.decreases-loop-state
decreases-loop-state l = length l.list.items
