use Rattle.std.proofs.Common.{take}
use Rattle.block_reading.specs.ByColumns.{AreGoodNames}
use Rattle.block_reading.proofs.names.are_good.Given as goal

abbrev pub invariant-loop-column : goal.invariant-loop-column
invariant-loop-column l = AreGoodNames (take l.column-index l.columns)
