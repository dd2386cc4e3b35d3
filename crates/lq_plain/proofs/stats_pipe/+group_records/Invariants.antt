use Rattle.std.proofs.Common.{length}
use Rattle.lq_plain.proofs.stats_pipe.+group_records.Given as goal

abbrev pub decreases-group_records : goal.decreases-group_records
decreases-group_records l = length l.tuples.now
