use Rattle.std.proofs.Common.{◌≡◌, take}
use Rattle.block_model.proofs.lent.lend.Given as goal

abbrev pub invariant-loop-numbered : goal.invariant-loop-numbered
invariant-loop-numbered l = l.lent.items ≡ take l.numbered-index l.rows
