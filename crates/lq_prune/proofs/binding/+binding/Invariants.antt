use Rattle.std.proofs.Common.{◌≡◌, map, take, true}
use Rattle.lq_prune.specs.Bound.{are_bound}
use Rattle.lq_prune.specs.Tree.{needed_of}
use Rattle.lq_prune.proofs.binding.+binding.Given as goal

abbrev pub invariant-bind_all-loop-i : goal.invariant-bind_all-loop-i
invariant-bind_all-loop-i l = record {
  bound : are_bound l.stream (take l.i l.trees.items) ≡ true;
  same : map needed_of l.trees.items ≡ map needed_of l.initial.trees.items;
  unvisited : goal.unvisited-bind_all-loop-i l;
}
