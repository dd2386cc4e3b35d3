use Rattle.std.proofs.Common.{◌≡◌, map, take}
use Rattle.lq_ast.specs.View.{test_of}
use Rattle.lq_prune.proofs.selection.group_copy.Given as goal

abbrev pub invariant-loop-test : goal.invariant-loop-test
invariant-loop-test l = map test_of l.labels.items ≡ map test_of (take l.test-index l.test-items)
