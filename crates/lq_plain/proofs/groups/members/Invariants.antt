use Rattle.std.proofs.Common.{◌≡◌, map, take}
use Rattle.lq_ast.specs.Groups.{members}
use Rattle.lq_ast.specs.PipeView.{group_by}
use Rattle.lq_plain.proofs.groups.members.Given as goal

abbrev pub invariant-loop-fields : goal.invariant-loop-fields
invariant-loop-fields l = l.members.items ≡ members (map group_by l.keys) (take l.fields-index l.records) l.tuple
