use Rattle.std.proofs.Common.{◌-◌, ◌≤◌, drop, length}
use Rattle.part_model.proofs.FillLaws.{AreOrdered, FillUpTo}
use Rattle.part_file.proofs.filled.filled.Given as goal

abbrev pub invariant-loop-start : goal.invariant-loop-start
invariant-loop-start l = record {
  there : l.start ≤ length l.rows;
  filled : FillUpTo l.blocks.items (drop l.start l.rows) l.rows;
  ordered : AreOrdered (drop l.start l.rows);
}

abbrev pub decreases-loop-start : goal.decreases-loop-start
decreases-loop-start l = length l.rows - l.start
