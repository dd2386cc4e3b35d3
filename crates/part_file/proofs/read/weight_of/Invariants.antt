use Rattle.std.proofs.Common.{◌≡◌, ◌^◌, ◌-◌, min, take}
use Rattle.part_model.specs.Part.{rows_weight}
use Rattle.part_file.proofs.read.weight_of.Given as goal

abbrev pub invariant-loop-numbered : goal.invariant-loop-numbered
invariant-loop-numbered l = l.weight ≡ min (rows_weight (take l.numbered-index l.rows)) (2 ^ 64 - 1)
