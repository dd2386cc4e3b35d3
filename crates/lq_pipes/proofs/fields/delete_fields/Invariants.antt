use Rattle.std.proofs.Common.{◌≡◌, ◌++◌, drop, map, take}
use Rattle.lq_ast.specs.Records.{without_fields}
use Rattle.lq_pipes.proofs.fields.delete_fields.Given as goal

abbrev pub invariant-loop-record : goal.invariant-loop-record
invariant-loop-record l =
    l.record-items
    ≡ map (without_fields l.names) (take l.record-index l.initial.record-items) ++ drop l.record-index
    l.initial.record-items
