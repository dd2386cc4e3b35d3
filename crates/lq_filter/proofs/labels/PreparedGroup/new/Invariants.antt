use Rattle.std.proofs.Common.{map}
use Rattle.lq_ast.specs.Patterns.{patterns_of_test}
use Rattle.lq_ast.specs.View.{test_of}
use Rattle.lq_filter.specs.Labels.{test_of as prepared_test}
use Rattle.lq_filter.proofs.Refusals.{Left}
use Rattle.lq_filter.proofs.labels.PreparedGroup.new.Given as goal

abbrev pub invariant-loop-test : goal.invariant-loop-test
invariant-loop-test l =
    Left test_of (λ test. patterns_of_test (test_of test)) l.test-items l.fn.nth l.test-index
    (map prepared_test l.tests.items) l.nth
