use Rattle.std.proofs.Common.{◌≡◌, drop, map}
use Rattle.std.specs.List.{list_all}
use Rattle.lq_ast.specs.Holds.{passes}
use Rattle.lq_filter.specs.Labels.{test_of}
use Rattle.lq_filter.proofs.labels.PreparedGroup.selects.Given as goal

abbrev pub invariant-loop-test : goal.invariant-loop-test
invariant-loop-test l =
    list_all (λ test. passes l.stream (test_of test)) (drop l.test-index l.test-items)
    ≡ list_all (passes l.stream) (map test_of l.self.tests.items)
