use Rattle.std.proofs.Common.{◌≡◌, take}
use Rattle.part_model.specs.Filling.{rows_in_blocks}
use Rattle.part_picks.proofs.copying.rows_of.Given as goal

abbrev pub invariant-loop-pick : goal.invariant-loop-pick
invariant-loop-pick l = l.rows.items ≡ rows_in_blocks (take l.pick-index l.picks)
