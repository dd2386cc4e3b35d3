use Rattle.std.proofs.Common.{◌≡◌, map, take}
use Rattle.block_format.specs.Columns.{lent_column}
use Rattle.block_model.specs.Columns.{rows_from}
use Rattle.block_format.proofs.said.rows_found.Given as goal

abbrev pub invariant-loop-i : goal.invariant-loop-i
invariant-loop-i l = l.rows.items ≡ rows_from l.labels (map lent_column l.columns) 0 (take l.i l.keys)
