use Rattle.lq_filter.specs.Subject.{subject_of}
use Rattle.lq_filter.specs.Tree.{condition_of_tree}
use Rattle.lq_filter.proofs.Conditions.{all_met-list, some_met-list}
use Rattle.lq_filter.proofs.tree.+holding.Goals as goal

pub all_hold-loop-tree-init : goal.all_hold-loop-tree-init
all_hold-loop-tree-init g t c = all_met-list condition_of_tree (subject_of g.R.LentRow.event c.args.subject.now) c.args.trees.now

pub some_holds-loop-tree-init : goal.some_holds-loop-tree-init
some_holds-loop-tree-init g t c = some_met-list condition_of_tree (subject_of g.R.LentRow.event c.args.subject.now) c.args.trees.now
