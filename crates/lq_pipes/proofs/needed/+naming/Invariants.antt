use Rattle.std.proofs.Common.{◌≡◌, ◌++◌, map, take}
use Rattle.lq_ast.specs.Condition.{conditions}
use Rattle.lq_ast.specs.View.{condition}
use Rattle.lq_pipes.specs.Needs.{asked_among}
use Rattle.lq_pipes.proofs.needed.+naming.Given as goal

abbrev pub invariant-push_filters-loop-filter : goal.invariant-push_filters-loop-filter
invariant-push_filters-loop-filter l =
    l.names.items ≡ l.initial.names.items ++ asked_among (conditions (map condition (take l.filter-index l.filters)))
