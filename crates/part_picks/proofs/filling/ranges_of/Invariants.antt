use Rattle.std.proofs.Common.{◌≡◌, take}
use Rattle.block_gather.specs.Picked.{rows_picked}
use Rattle.part_model.specs.Filling.{rows_in_blocks}
use Rattle.part_picks.proofs.filling.ranges_of.Given as goal

abbrev pub invariant-loop-pick : goal.invariant-loop-pick
invariant-loop-pick l = rows_picked l.ranges.items ≡ rows_in_blocks (take l.pick-index l.picks)
