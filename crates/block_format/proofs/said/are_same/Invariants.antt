use Rattle.std.proofs.Common.{◌≡◌, ◌↔◌, length}
use Rattle.block_format.proofs.said.are_same.Given as goal

abbrev pub invariant-loop-left : goal.invariant-loop-left
invariant-loop-left l = (l.initial.left ≡ l.initial.right) ↔ (l.left ≡ l.right)

abbrev pub decreases-loop-left : goal.decreases-loop-left
decreases-loop-left l = length l.left
