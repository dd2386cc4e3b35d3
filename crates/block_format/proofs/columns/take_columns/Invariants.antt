use Rattle.std.proofs.Common.{◌≡◌, ◌-◌}
use Rattle.std.specs.List.{All}
use Rattle.byte_format.specs.Format.{front, many, one_more, repeated}
use Rattle.block_format.specs.Columns.{HasRows, column}
use Rattle.block_format.proofs.columns.take_columns.Given as goal

abbrev pub invariant-loop : goal.invariant-loop
invariant-loop l = record {
  read : front (repeated (l.count - l.counter) (one_more (column l.rows)) l.columns.items) l.rest
      ≡ front (many l.count (column l.rows)) l.bytes;
  rows : All (HasRows l.rows) l.columns.items;
}
