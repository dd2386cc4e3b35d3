use Rattle.std.proofs.Common.{◌≡◌, map, take}
use Rattle.lq_ast.specs.Groups.{key_tuple}
use Rattle.lq_ast.specs.PipeView.{group_by}
use Rattle.lq_plain.proofs.groups.group_tuples.Given as goal

abbrev pub invariant-loop-fields : goal.invariant-loop-fields
invariant-loop-fields l = l.tuples.items ≡ map (key_tuple (map group_by l.keys)) (take l.fields-index l.records)
