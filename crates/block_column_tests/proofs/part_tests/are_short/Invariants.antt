use Rattle.std.proofs.Common.{◌≡◌, ◌<◌, ◌^◌, length, sum_by, take}
use Rattle.block_column_tests.proofs.part_tests.are_short.Given as goal

abbrev pub invariant-loop-i : goal.invariant-loop-i
invariant-loop-i l = record { size : l.size ≡ sum_by length (take l.i l.found); small : l.size < 2 ^ 32 }
