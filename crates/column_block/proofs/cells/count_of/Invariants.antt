use Rattle.std.proofs.Common.{◌≤◌}
use Rattle.column_block.proofs.cells.count_of.Given as goal

abbrev pub invariant-loop-c : goal.invariant-loop-c
invariant-loop-c l = l.count ≤ l.c
