use Rattle.std.proofs.Common.{◌≡◌, map, take}
use Rattle.lq_ast.specs.PipeView.{name_pair}
use Rattle.lq_ast.specs.Records.{rename_fields}
use Rattle.lq_pipes.proofs.fields.rename_in.Given as goal

abbrev pub invariant-loop-pair : goal.invariant-loop-pair
invariant-loop-pair l = l.r ≡ rename_fields (map name_pair (take l.pair-index l.pairs)) l.initial.r
