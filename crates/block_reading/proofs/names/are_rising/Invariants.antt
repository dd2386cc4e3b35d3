use Rattle.std.proofs.Common.{◌≡◌, ◌+◌, ◌<◌, ℕ, [], get_or}
use Rattle.std.specs.declared.cmp.Ordering.TheVariants.{Less}
use Rattle.log_model.specs.Field.{bytes_cmp}
use Rattle.block_reading.specs.ByColumns.{column_names}
use Rattle.block_reading.proofs.names.are_rising.Given as goal

abbrev pub invariant-loop-i : goal.invariant-loop-i
invariant-loop-i l =
    (k : ℕ) → k + 1 < l.i
    → bytes_cmp (get_or (column_names l.columns) k []) (get_or (column_names l.columns) (k + 1) []) ≡ Less
