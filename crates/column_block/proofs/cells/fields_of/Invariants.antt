use Rattle.std.proofs.Common.{◌≡◌, [], Some, map, slice_get, take}
use Rattle.log_model.specs.Field.{set_all}
use Rattle.log_model.specs.History.{Numbered}
use Rattle.block_model.specs.Columns.{names_of}
use Rattle.block_model.proofs.FieldLaws.{value_named}
use Rattle.column_block.proofs.cells.fields_of.Given as goal

abbrev pub invariant-loop-c : goal.invariant-loop-c
invariant-loop-c l = (numbered : Numbered) → slice_get l.stored l.i ≡ Some numbered
    → l.fields ≡ set_all [] (map (value_named numbered.row.fields) (take l.c (names_of l.stored)))
