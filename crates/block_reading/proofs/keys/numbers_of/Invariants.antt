use Rattle.std.proofs.Common.{◌≡◌, map, take}
use Rattle.block_reading.specs.ByColumns.{number_in}
use Rattle.block_reading.proofs.keys.numbers_of.Given as goal

abbrev pub invariant-loop-key : goal.invariant-loop-key
invariant-loop-key l = l.numbers.items ≡ map number_in (take l.key-index l.keys)
