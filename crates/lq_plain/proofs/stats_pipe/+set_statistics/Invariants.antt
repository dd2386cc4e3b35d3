use Rattle.std.proofs.Common.{length}
use Rattle.lq_plain.proofs.stats_pipe.+set_statistics.Given as goal

abbrev pub decreases-set_statistics : goal.decreases-set_statistics
decreases-set_statistics l = length l.funcs.now
