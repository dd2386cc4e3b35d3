use Rattle.std.proofs.Common.{length}
use Rattle.lq_plain.proofs.selector.+some_selects.Given as goal

abbrev pub decreases-some_selects : goal.decreases-some_selects
decreases-some_selects l = length l.groups.now
