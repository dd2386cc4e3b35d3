use Rattle.std.proofs.Common.{map, take}
use Rattle.std.specs.List.{AllByRecursion}
use Rattle.log_model.specs.Field.{IsFieldList}
use Rattle.log_model.specs.Row.{record_of}
use Rattle.lq_pipes.proofs.rows.rows_law.Given as goal

abbrev pub invariant-loop-row : goal.invariant-loop-row
invariant-loop-row g l = AllByRecursion IsFieldList (map (λ row. record_of (g.R.LentRow.event row)) (take l.row-index l.rows))
