use Rattle.std.proofs.Common.{◌≡◌, drop, map, true}
use Rattle.std.specs.List.{list_all, list_any}
use Rattle.lq_prune.specs.Bound.{is_bound}
use Rattle.lq_prune.specs.Need.{admits, all_needed, one_needed}
use Rattle.lq_prune.specs.Tree.{needed_of}
use Rattle.lq_prune.proofs.admitting.+admitting.Given as goal

abbrev pub invariant-all_admit-loop-tree : goal.invariant-all_admit-loop-tree
invariant-all_admit-loop-tree l = record {
  bound : list_all (is_bound l.head.labels) l.trees ≡ true;
  left : list_all (λ tree. admits (needed_of tree) l.head) (drop l.tree-index l.trees)
      ≡ admits (all_needed (map needed_of l.trees)) l.head;
}

abbrev pub invariant-some_admits-loop-tree : goal.invariant-some_admits-loop-tree
invariant-some_admits-loop-tree l = record {
  bound : list_all (is_bound l.head.labels) l.trees ≡ true;
  left : list_any (λ tree. admits (needed_of tree) l.head) (drop l.tree-index l.trees)
      ≡ admits (one_needed (map needed_of l.trees)) l.head;
}
