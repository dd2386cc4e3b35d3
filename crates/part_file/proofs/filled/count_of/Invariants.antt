use Rattle.std.proofs.Common.{◌≡◌, length, take}
use Rattle.part_model.specs.Filling.{rows_in_blocks}
use Rattle.part_file.proofs.filled.count_of.Given as goal

abbrev pub invariant-loop-block : goal.invariant-loop-block
invariant-loop-block l = l.count ≡ length (rows_in_blocks (take l.block-index l.blocks))
