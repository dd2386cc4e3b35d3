use Rattle.std.proofs.Common.{length}
use Rattle.lq_plain.proofs.make_pipe.+push_formatted.Given as goal

abbrev pub decreases-push_formatted : goal.decreases-push_formatted
decreases-push_formatted l = length l.pieces.now
