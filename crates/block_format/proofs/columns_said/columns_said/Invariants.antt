use Rattle.std.proofs.Common.{◌≡◌, ℕ, filter, map, take}
use Rattle.block_format.specs.Columns.{AreSaid, lent_column}
use Rattle.block_format.specs.Reading.{has_name}
use Rattle.block_model.specs.Columns.{fields_at}
use Rattle.block_format.proofs.columns_said.columns_said.Given as goal

abbrev pub invariant-loop-column : goal.invariant-loop-column
invariant-loop-column l = record {
  fields : (i : ℕ)
      → fields_at (map lent_column l.last.entries) i ≡ fields_at (filter has_name (take l.column-index l.columns)) i;
  said : AreSaid l.rows l.last.entries;
}
