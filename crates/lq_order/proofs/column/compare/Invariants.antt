use Rattle.std.proofs.Common.{◌≡◌, length}
use Rattle.lq_order.specs.Column.{columns_cmp}
use Rattle.lq_order.proofs.column.compare.Given as goal

abbrev pub invariant-loop-left : goal.invariant-loop-left
invariant-loop-left l = columns_cmp l.columns l.a l.b ≡ columns_cmp l.left l.a l.b

abbrev pub decreases-loop-left : goal.decreases-loop-left
decreases-loop-left l = length l.left
