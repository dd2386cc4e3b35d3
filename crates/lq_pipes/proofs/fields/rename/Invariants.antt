use Rattle.std.proofs.Common.{◌≡◌, ◌++◌, drop, map, take}
use Rattle.lq_ast.specs.PipeView.{name_pair}
use Rattle.lq_ast.specs.Records.{rename_fields}
use Rattle.lq_pipes.proofs.fields.rename.Given as goal

abbrev pub invariant-loop-record : goal.invariant-loop-record
invariant-loop-record l =
    l.record-items
    ≡ map (rename_fields (map name_pair l.pairs)) (take l.record-index l.initial.record-items) ++ drop l.record-index
    l.initial.record-items
