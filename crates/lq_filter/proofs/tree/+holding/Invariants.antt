use Rattle.std.proofs.Common.{◌≡◌, drop, map}
use Rattle.std.specs.List.{list_all, list_any}
use Rattle.lq_ast.specs.Condition.{conditions}
use Rattle.lq_ast.specs.Holds.{are_all_met, is_met, is_some_met}
use Rattle.lq_filter.specs.Subject.{subject_of}
use Rattle.lq_filter.specs.Tree.{condition_of_tree}
use Rattle.lq_filter.proofs.tree.+holding.Given as goal

abbrev pub invariant-all_hold-loop-tree : goal.invariant-all_hold-loop-tree
invariant-all_hold-loop-tree g l =
    list_all (λ tree. is_met (condition_of_tree tree) (subject_of g.R.LentRow.event l.subject)) (drop l.tree-index l.trees)
    ≡ are_all_met (conditions (map condition_of_tree l.trees)) (subject_of g.R.LentRow.event l.subject)

abbrev pub invariant-some_holds-loop-tree : goal.invariant-some_holds-loop-tree
invariant-some_holds-loop-tree g l =
    list_any (λ tree. is_met (condition_of_tree tree) (subject_of g.R.LentRow.event l.subject)) (drop l.tree-index l.trees)
    ≡ is_some_met (conditions (map condition_of_tree l.trees)) (subject_of g.R.LentRow.event l.subject)
