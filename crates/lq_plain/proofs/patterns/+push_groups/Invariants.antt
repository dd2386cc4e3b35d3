use Rattle.std.proofs.Common.{length}
use Rattle.lq_plain.proofs.patterns.+push_groups.Given as goal

abbrev pub decreases-push_groups : goal.decreases-push_groups
decreases-push_groups l = length l.groups.now
