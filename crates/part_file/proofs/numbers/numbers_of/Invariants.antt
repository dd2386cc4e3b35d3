use Rattle.std.proofs.Common.{◌≡◌, map, take}
use Rattle.block_format.specs.Rows.{number_of}
use Rattle.part_model.specs.Filling.{rows_in_blocks}
use Rattle.part_file.proofs.numbers.numbers_of.Given as goal

abbrev pub invariant-loop-block : goal.invariant-loop-block
invariant-loop-block l = l.numbers.items ≡ map number_of (rows_in_blocks (take l.block-index l.blocks))
