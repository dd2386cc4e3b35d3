use Rattle.std.proofs.Common.{◌≡◌, map, take}
use Rattle.block_model.specs.Columns.{fields_at}
use Rattle.block_format.specs.Columns.{lent_column}
use Rattle.block_format.proofs.said.fields_of.Given as goal

abbrev pub invariant-loop-name : goal.invariant-loop-name
invariant-loop-name l = l.fields ≡ fields_at (map lent_column (take l.name-index l.columns)) l.i
