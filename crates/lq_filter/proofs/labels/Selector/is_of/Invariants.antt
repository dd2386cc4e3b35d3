use Rattle.std.proofs.Common.{◌≡◌, map, take}
use Rattle.lq_ast.specs.View.{tests_of}
use Rattle.lq_filter.specs.Labels.{tests_of as prepared_tests}
use Rattle.lq_filter.proofs.labels.Selector.is_of.Given as goal

abbrev pub invariant-loop-place : goal.invariant-loop-place
invariant-loop-place l =
    map prepared_tests (take l.place l.self.groups.items) ≡ map tests_of (take l.place l.select.groups)
