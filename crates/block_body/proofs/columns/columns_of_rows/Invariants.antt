use Rattle.std.proofs.Common.{◌≡◌, map, take}
use Rattle.block_model.specs.Columns.{values_of}
use Rattle.block_body.specs.Outlines.{filter_named}
use Rattle.block_body.proofs.columns.columns_of_rows.Given as goal

abbrev pub invariant-loop-name : goal.invariant-loop-name
invariant-loop-name l = record {
  heads : l.heads.items ≡ map (filter_named l.rows) (take l.name-index l.names);
  columns : l.columns.items ≡ map (values_of l.rows) (take l.name-index l.names);
}
