use Rattle.std.proofs.Common.{take}
use Rattle.std.specs.List.{AllByRecursion}
use Rattle.block_reading.specs.ByColumns.{IsFitKey}
use Rattle.block_reading.proofs.keys.are_fit.Given as goal

abbrev pub invariant-loop-key : goal.invariant-loop-key
invariant-loop-key l = AllByRecursion IsFitKey (take l.key-index l.keys)
