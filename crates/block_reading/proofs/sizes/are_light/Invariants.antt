use Rattle.std.proofs.Common.{◌<◌, ℕ, get_or}
use Rattle.block_reading.specs.ByColumns.{IsNumberFit, nothing}
use Rattle.block_reading.proofs.sizes.are_light.Given as goal

abbrev pub invariant-loop-size : goal.invariant-loop-size
invariant-loop-size l = (i : ℕ) → i < l.size-index → IsNumberFit (get_or l.sizes i nothing)
