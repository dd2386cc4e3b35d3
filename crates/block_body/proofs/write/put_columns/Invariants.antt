use Rattle.std.proofs.Common.{◌≡◌, ◌++◌, take}
use Rattle.std.specs.List.{flat_map}
use Rattle.block_format.specs.Columns.{column_bytes}
use Rattle.block_body.specs.Held.{columns_in}
use Rattle.block_body.proofs.write.put_columns.Given as goal

abbrev pub invariant-loop-i : goal.invariant-loop-i
invariant-loop-i l =
    l.out.items ≡ l.initial.out.items ++ flat_map column_bytes (columns_in (take l.i l.heads) (take l.i l.columns))
