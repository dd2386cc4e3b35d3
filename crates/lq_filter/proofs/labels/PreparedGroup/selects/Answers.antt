use Rattle.lq_ast.specs.Holds.{passes}
use Rattle.lq_filter.specs.Labels.{test_of}
use Rattle.lq_filter.proofs.Walks.{all_mapped}
use Rattle.lq_filter.proofs.labels.PreparedGroup.selects.Goals as goal

pub loop-test-init : goal.loop-test-init
loop-test-init c = rw c.deref-test-items.ensures.value (all_mapped (passes c.args.stream.now)
    test_of c.args.self.now.tests.items)
