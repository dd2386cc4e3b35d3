-- The condition that a prepared filter was made from.
use Rattle.std.specs.Prelude.{ℤ}
use Rattle.lq_ast.specs.Condition.{Condition, conditions}
use Rattle.lq_ast.specs.Condition as is
use Rattle.lq_filter.specs.Labels.{groups_of}
use Rattle.lq_filter.specs.Value.{condition_of_field}
use Rattle.lq_filter.specs.declared.prepared.Prepared.{Prepared}
use Rattle.lq_filter.specs.declared.prepared.Scan.{Scan}
use Rattle.lq_filter.specs.declared.tree.Tree.{Tree, fold-Tree}
use Rattle.lq_filter.specs.declared.tree.Tree.TheOpen.{Tree-F}

abbrev layer : Tree-F Condition → Condition
layer Tree-F.Always = is.always
layer (Tree-F.Field field) = condition_of_field field
layer (Tree-F.Last span) = is.last span
layer (Tree-F.Times from to) = is.times from to
layer (Tree-F.Selected selector) = is.selected (groups_of selector)
layer (Tree-F.Not tree) = is.negated tree.value
layer (Tree-F.All trees) = is.all_of (conditions trees.items)
layer (Tree-F.Any trees) = is.any_of (conditions trees.items)

abbrev pub condition_of_tree : Tree → Condition
condition_of_tree = fold-Tree Condition layer

-- the condition of the query that was prepared
abbrev pub condition_of : Prepared → Condition
condition_of prepared = condition_of_tree prepared.filter

-- the condition of the query whose rows are scanned
abbrev pub scanned : Scan → Condition
scanned scan = condition_of_tree scan.filter.now

-- the moment at which they are asked
abbrev pub moment_of : Scan → ℤ
moment_of scan = scan.now
