use Rattle.std.proofs.Common.{◌≡◌, map, take}
use Rattle.lq_ast.specs.Groups.{key_value}
use Rattle.lq_ast.specs.PipeView.{group_by}
use Rattle.lq_plain.proofs.groups.key_tuple.Given as goal

abbrev pub invariant-loop-key : goal.invariant-loop-key
invariant-loop-key l = l.tuple.items ≡ map (key_value l.fields) (map group_by (take l.key-index l.keys))
