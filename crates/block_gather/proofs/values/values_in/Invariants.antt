use Rattle.std.proofs.Common.{◌≡◌, map, take}
use Rattle.block_model.specs.Columns.{values_of}
use Rattle.lent_row.specs.Cells.{value_text}
use Rattle.block_gather.specs.Picked.{rows_picked}
use Rattle.block_gather.proofs.values.values_in.Given as goal

abbrev pub invariant-loop-pick : goal.invariant-loop-pick
invariant-loop-pick l = map value_text l.values.items ≡ values_of (rows_picked (take l.pick-index l.picks)) l.name
