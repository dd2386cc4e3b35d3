use Rattle.std.proofs.Common.{◌≡◌, length, map, take}
use Rattle.block_reading.specs.ByColumns.{contents, filter_for}
use Rattle.block_reading.proofs.by_columns.filled_columns.Given as goal

abbrev pub invariant-loop-column : goal.invariant-loop-column
invariant-loop-column l = record {
  heads : l.heads.items ≡ map filter_for (take (length l.yielded) l.fn.columns.items);
  values : l.values.items ≡ contents (take (length l.yielded) l.fn.columns.items);
}
