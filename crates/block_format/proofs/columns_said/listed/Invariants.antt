use Rattle.std.proofs.Common.{◌≡◌, ◌++◌}
use Rattle.block_format.proofs.columns_said.listed.Given as goal

abbrev pub invariant-loop-column : goal.invariant-loop-column
invariant-loop-column l = l.said.items ++ l.column-iterator ≡ l.fn.last.entries
