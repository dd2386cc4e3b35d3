use Rattle.std.proofs.Common.{◌≤◌}
use Rattle.block_format.proofs.said.count_of.Given as goal

abbrev pub invariant-loop-values : goal.invariant-loop-values
invariant-loop-values l = l.count ≤ l.values-index
