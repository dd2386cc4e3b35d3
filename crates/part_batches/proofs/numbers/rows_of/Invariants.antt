use Rattle.std.proofs.Common.{◌≡◌, ◌-◌, ◌^◌, length, map, take}
use Rattle.std.specs.Prelude.{min}
use Rattle.std.specs.Arc.{arc_value}
use Rattle.part_model.specs.Filling.{rows_in_blocks}
use Rattle.part_batches.proofs.numbers.rows_of.Given as goal

abbrev pub invariant-loop-part : goal.invariant-loop-part
invariant-loop-part l =
    l.rows ≡ min (length (rows_in_blocks (map arc_value (take l.part-index l.parts)))) (2 ^ 64 - 1)
