use Rattle.std.proofs.Common.{◌+◌, ◌-◌, length}
use Rattle.lq_filter.proofs.asking.Asking.keep.Given as goal

abbrev pub decreases-loop-self : goal.decreases-loop-self
decreases-loop-self l = l.place + 1 - length l.self.slots.items
