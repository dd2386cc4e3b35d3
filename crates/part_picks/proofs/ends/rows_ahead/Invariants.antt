use Rattle.std.proofs.Common.{◌≡◌, take}
use Rattle.part_model.specs.Filling.{rows_in_blocks}
use Rattle.part_picks.proofs.ends.rows_ahead.Given as goal

abbrev pub invariant-loop-i : goal.invariant-loop-i
invariant-loop-i l = l.rows.items ≡ rows_in_blocks (take l.i l.queue.items)
