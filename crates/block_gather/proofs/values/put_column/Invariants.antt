use Rattle.std.proofs.Common.{◌≡◌, ◌≤◌, ◌++◌, [], map}
use Rattle.std.specs.Prelude.{slice_index_or}
use Rattle.std.specs.List.{slice_range}
use Rattle.lent_row.specs.Cells.{value_text}
use Rattle.block_model.specs.Columns.{names_of, values_of}
use Rattle.block_gather.proofs.values.put_column.Given as goal

abbrev pub invariant-loop-i : goal.invariant-loop-i
invariant-loop-i l = record {
  values : map value_text l.out.items ≡ map value_text l.initial.out.items
      ++ values_of (slice_range l.pick.block l.pick.from l.i) (slice_index_or (names_of l.pick.block) l.c []);
  start : l.pick.from ≤ l.i;
}
