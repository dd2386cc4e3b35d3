use Rattle.std.proofs.Common.{◌≡◌, ◌++◌, drop, map, take}
use Rattle.lq_ast.specs.Records.{only_fields}
use Rattle.lq_pipes.proofs.fields.keep_fields.Given as goal

abbrev pub invariant-loop-record : goal.invariant-loop-record
invariant-loop-record l =
    l.record-items
    ≡ map (only_fields l.names) (take l.record-index l.initial.record-items) ++ drop l.record-index
    l.initial.record-items
