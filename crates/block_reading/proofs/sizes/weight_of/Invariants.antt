use Rattle.std.proofs.Common.{◌≡◌, ◌<◌, ℕ, get_or, length, take}
use Rattle.std.specs.List.{AllByRecursion}
use Rattle.block_reading.specs.ByColumns.{AreWithin, IsFilled, nothing, size_at}
use Rattle.block_reading.proofs.sizes.weight_of.Given as goal

abbrev pub invariant-loop-column : goal.invariant-loop-column
invariant-loop-column l = record {
  each : AllByRecursion IsFilled (take l.column-index l.columns);
  count : length l.slots ≡ l.rows;
  sizes : (i : ℕ) → i < l.rows → get_or l.slots i nothing ≡ size_at (take l.column-index l.columns) i;
  within : AreWithin l.slots;
}
