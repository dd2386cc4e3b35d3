use Rattle.std.proofs.Common.{◌≡◌, take}
use Rattle.part_picks.proofs.taking.queued.Given as goal

abbrev pub invariant-loop-pick : goal.invariant-loop-pick
invariant-loop-pick l = l.queue.items ≡ take l.pick-index l.picks
