use Rattle.std.proofs.Common.{rules}
use Rattle.lq_grammar.specs.LogsQL.{exact, greater, less, mark_leaf, regex}
use Rattle.lq_parse_filter.proofs.leaves.mark_leaf.Goals as goal

pub returns-then-at : goal.returns-then-at
unfolding mark_leaf exact regex greater less
returns-then-at c = search rules

pub returns-then-at-2 : goal.returns-then-at-2
unfolding mark_leaf exact regex greater less
returns-then-at-2 c = search rules

pub returns-then-at-3 : goal.returns-then-at-3
unfolding mark_leaf exact regex greater less
returns-then-at-3 c = search rules

pub returns-then-at-4 : goal.returns-then-at-4
unfolding mark_leaf exact regex greater less
returns-then-at-4 c = search rules

pub returns : goal.returns
unfolding mark_leaf exact regex greater less
returns c = search rules
