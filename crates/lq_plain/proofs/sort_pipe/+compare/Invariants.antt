use Rattle.std.proofs.Common.{length}
use Rattle.lq_plain.proofs.sort_pipe.+compare.Given as goal

abbrev pub decreases-compare : goal.decreases-compare
decreases-compare l = length l.keys.now
