use Rattle.std.proofs.Common.{length}
use Rattle.lq_plain.proofs.math.+math_fields.Given as goal

abbrev pub decreases-math_fields : goal.decreases-math_fields
decreases-math_fields l = length l.items.now
