use Rattle.std.proofs.Common.{◌≡◌, take}
use Rattle.part_file.proofs.filled.shared.Given as goal

abbrev pub invariant-loop-block : goal.invariant-loop-block
invariant-loop-block l = l.copies.items ≡ take l.block-index l.blocks
