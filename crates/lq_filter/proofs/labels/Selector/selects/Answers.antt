use Rattle.std.specs.List.{list_all}
use Rattle.lq_ast.specs.Holds.{passes}
use Rattle.lq_filter.specs.Labels.{tests_of}
use Rattle.lq_filter.proofs.Walks.{any_mapped}
use Rattle.lq_filter.proofs.labels.Selector.selects.Goals as goal

pub loop-group-init : goal.loop-group-init
loop-group-init c =
    rw c.deref-group-items.ensures.value (any_mapped (list_all (passes c.args.stream.now))
    tests_of c.args.self.now.groups.items)
