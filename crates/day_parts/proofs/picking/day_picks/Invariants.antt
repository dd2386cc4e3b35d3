use Rattle.std.proofs.Common.{◌≡◌, take}
use Rattle.day_model.specs.Days.{AreOfTheirDays}
use Rattle.part_model.specs.Filling.{rows_in_blocks}
use Rattle.day_parts.specs.Runs.{all_rows}
use Rattle.day_parts.proofs.picking.day_picks.Given as goal

abbrev pub invariant-loop-block : goal.invariant-loop-block
invariant-loop-block l = record {
  rows : all_rows l.picks.items ≡ rows_in_blocks (take l.block-index l.blocks);
  days : AreOfTheirDays l.picks.items;
}
