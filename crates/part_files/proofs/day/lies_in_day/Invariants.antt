use Rattle.std.proofs.Common.{take}
use Rattle.std.specs.List.{All}
use Rattle.day_model.specs.Days.{LieInDay}
use Rattle.part_files.proofs.day.lies_in_day.Given as goal

abbrev pub invariant-loop-block : goal.invariant-loop-block
invariant-loop-block l = All (LieInDay l.day) (take l.block-index l.block-items)
