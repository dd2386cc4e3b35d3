use Rattle.std.proofs.Common.{length}
use Rattle.part_model.specs.Filling.{rows_in_blocks}
use Rattle.part_picks.proofs.FillLaws.{IsLeft}
use Rattle.part_picks.proofs.filling.filled.Given as goal

abbrev pub invariant-loop-alloc : goal.invariant-loop-alloc
invariant-loop-alloc l = IsLeft l.blocks.items (rows_in_blocks l.queue.items) (rows_in_blocks l.picks)

abbrev pub decreases-loop-alloc : goal.decreases-loop-alloc
decreases-loop-alloc l = length (rows_in_blocks l.queue.items)
