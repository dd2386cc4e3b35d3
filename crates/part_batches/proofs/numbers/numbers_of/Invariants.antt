use Rattle.std.proofs.Common.{◌≡◌, map, take}
use Rattle.std.specs.Arc.{arc_value}
use Rattle.block_format.specs.Rows.{number_of}
use Rattle.part_model.specs.Filling.{rows_in_blocks}
use Rattle.part_batches.proofs.numbers.numbers_of.Given as goal

abbrev pub invariant-loop-part : goal.invariant-loop-part
invariant-loop-part l =
    l.numbers.items ≡ map number_of (rows_in_blocks (map arc_value (take l.part-index l.parts)))
