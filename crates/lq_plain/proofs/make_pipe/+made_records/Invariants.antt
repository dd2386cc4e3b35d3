use Rattle.std.proofs.Common.{length}
use Rattle.lq_plain.proofs.make_pipe.+made_records.Given as goal

abbrev pub decreases-made_records : goal.decreases-made_records
decreases-made_records l = length l.records.now
