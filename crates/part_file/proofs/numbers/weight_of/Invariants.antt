use Rattle.std.proofs.Common.{◌≡◌, ◌^◌, ◌-◌, min, take}
use Rattle.part_model.specs.Filling.{rows_in_blocks}
use Rattle.part_model.specs.Part.{rows_weight}
use Rattle.part_file.proofs.numbers.weight_of.Given as goal

abbrev pub invariant-loop-block : goal.invariant-loop-block
invariant-loop-block l = l.weight ≡ min (rows_weight (rows_in_blocks (take l.block-index l.blocks))) (2 ^ 64 - 1)
