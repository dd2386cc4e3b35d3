use Rattle.std.proofs.Common.{length}
use Rattle.lq_plain.proofs.tuple.+is_wholly_empty.Given as goal

abbrev pub decreases-is_wholly_empty : goal.decreases-is_wholly_empty
decreases-is_wholly_empty l = length l.tuple.now
