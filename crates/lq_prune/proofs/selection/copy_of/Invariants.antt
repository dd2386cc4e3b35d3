use Rattle.std.proofs.Common.{◌≡◌, map, take}
use Rattle.lq_ast.specs.View.{tests_of}
use Rattle.lq_prune.proofs.selection.copy_of.Given as goal

abbrev pub invariant-loop-group : goal.invariant-loop-group
invariant-loop-group l = map tests_of l.groups.items ≡ map tests_of (take l.group-index l.group-items)
