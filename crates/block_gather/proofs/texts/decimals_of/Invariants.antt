use Rattle.std.proofs.Common.{◌≡◌, map, take}
use Rattle.block_gather.specs.Gathered.{decimal_of}
use Rattle.block_gather.proofs.texts.decimals_of.Given as goal

abbrev pub invariant-loop-value : goal.invariant-loop-value
invariant-loop-value l = l.texts.items ≡ map decimal_of (take l.value-index l.values)
