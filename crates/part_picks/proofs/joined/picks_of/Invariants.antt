use Rattle.std.proofs.Common.{◌≡◌, take}
use Rattle.part_picks.proofs.joined.picks_of.Given as goal

abbrev pub invariant-loop-block : goal.invariant-loop-block
invariant-loop-block l = l.picks.items ≡ take l.block-index l.blocks
