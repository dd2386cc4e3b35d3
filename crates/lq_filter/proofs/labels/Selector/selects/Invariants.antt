use Rattle.std.proofs.Common.{◌≡◌, drop, map}
use Rattle.std.specs.List.{list_all, list_any}
use Rattle.lq_ast.specs.Holds.{passes}
use Rattle.lq_filter.specs.Labels.{tests_of}
use Rattle.lq_filter.proofs.labels.Selector.selects.Given as goal

abbrev pub invariant-loop-group : goal.invariant-loop-group
invariant-loop-group l =
    list_any (λ group. list_all (passes l.stream) (tests_of group)) (drop l.group-index l.group-items)
    ≡ list_any (list_all (passes l.stream)) (map tests_of l.self.groups.items)
