use Rattle.std.proofs.Common.{◌≡◌, ◌+◌, length, sum_by}
use Rattle.block_column_tests.proofs.column_tests.values_of.Given as goal

abbrev pub invariant-loop-value : goal.invariant-loop-value
invariant-loop-value l = sum_by (λ value. length value.now) l.values.items + l.room ≡ 4194304
