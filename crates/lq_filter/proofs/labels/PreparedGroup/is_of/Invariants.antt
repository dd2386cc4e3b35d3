use Rattle.std.proofs.Common.{◌≡◌, map, take}
use Rattle.lq_ast.specs.View.{test_of}
use Rattle.lq_filter.specs.Labels.{test_of as prepared_test}
use Rattle.lq_filter.proofs.labels.PreparedGroup.is_of.Given as goal

abbrev pub invariant-loop-place : goal.invariant-loop-place
invariant-loop-place l =
    map prepared_test (take l.place l.self.tests.items) ≡ map test_of (take l.place l.group.labels)
