use Rattle.std.proofs.Common.{◌≡◌, take}
use Rattle.log_model.specs.Row.{record_of}
use Rattle.lq_ast.specs.Records.{only_fields}
use Rattle.lq_pipes.proofs.projector.narrow_record.Given as goal

abbrev pub invariant-loop-name : goal.invariant-loop-name
invariant-loop-name g l = l.fields ≡ only_fields (take l.name-index l.names) (record_of (g.R.LentRow.event l.row))
