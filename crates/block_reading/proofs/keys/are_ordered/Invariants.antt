use Rattle.std.proofs.Common.{◌≡◌, ◌-◌, drop}
use Rattle.block_reading.specs.ByColumns.{bare}
use Rattle.block_format.specs.Rows.{are_ordered}
use Rattle.block_reading.proofs.keys.are_ordered.Given as goal

abbrev pub invariant-loop-i : goal.invariant-loop-i
invariant-loop-i l = are_ordered (bare l.keys) ≡ are_ordered (drop (l.i - 1) (bare l.keys))
