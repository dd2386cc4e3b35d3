use Rattle.std.proofs.Common.{◌≡◌, map, take}
use Rattle.block_column.proofs.members.each_of.Given as goal

abbrev pub invariant-loop-i : goal.invariant-loop-i
invariant-loop-i l = map (λ t. t.now) l.lent.items ≡ take l.i l.texts
