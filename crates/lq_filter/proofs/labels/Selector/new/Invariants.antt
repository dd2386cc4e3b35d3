use Rattle.std.proofs.Common.{map}
use Rattle.std.specs.Prelude.{flat_map}
use Rattle.lq_ast.specs.Patterns.{patterns_of_test}
use Rattle.lq_ast.specs.View.{tests_of}
use Rattle.lq_filter.specs.Labels.{tests_of as prepared_tests}
use Rattle.lq_filter.proofs.Refusals.{Left}
use Rattle.lq_filter.proofs.labels.Selector.new.Given as goal

abbrev pub invariant-loop-group : goal.invariant-loop-group
invariant-loop-group l =
    Left tests_of (λ group. flat_map patterns_of_test (tests_of group)) l.group-items l.fn.nth l.group-index
    (map prepared_tests l.groups.items) l.nth
