use Rattle.std.proofs.Common.{◌≡◌}
use Rattle.lq_filter.specs.Tree.{condition_of_tree}
use Rattle.block_scan.specs.Scans.{row_holds}
use Rattle.block_scan.proofs.Staying.{failed_first, passed_first}
use Rattle.block_scan.proofs.keeping.+keeping.Given as goal

abbrev pub invariant-keep_all-loop-tree : goal.invariant-keep_all-loop-tree
invariant-keep_all-loop-tree l =
    l.marks
    ≡ passed_first (λ tree. row_holds l.at.moment (condition_of_tree tree)) l.trees l.at.rows.now l.fn.marks
    l.tree-index

abbrev pub invariant-keep_some-loop-tree : goal.invariant-keep_some-loop-tree
invariant-keep_some-loop-tree l =
    l.left.items
    ≡ failed_first (λ tree. row_holds l.at.moment (condition_of_tree tree)) l.trees l.at.rows.now l.fn.marks
    l.tree-index
