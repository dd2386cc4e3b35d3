use Rattle.std.proofs.Common.{◌≡◌, take}
use Rattle.block_format.specs.Keys.{zipped}
use Rattle.block_format.proofs.keys.zipped.Given as goal

abbrev pub invariant-loop-i : goal.invariant-loop-i
invariant-loop-i l = l.keys.items ≡ zipped (take l.i l.times) (take l.i l.batches) (take l.i l.places)
