use Rattle.std.proofs.Common.{map}
use Rattle.lq_ast.specs.Patterns.{patterns_of}
use Rattle.lq_ast.specs.View.{condition}
use Rattle.lq_filter.specs.Tree.{condition_of_tree}
use Rattle.lq_filter.proofs.Refusals.{Left}
use Rattle.lq_filter.proofs.tree.+preparing.Given as goal

abbrev pub invariant-trees-loop-filter : goal.invariant-trees-loop-filter
invariant-trees-loop-filter l =
    Left condition (λ filter. patterns_of (condition filter)) l.filters l.fn.nth l.filter-index
    (map condition_of_tree l.trees.items) l.nth
