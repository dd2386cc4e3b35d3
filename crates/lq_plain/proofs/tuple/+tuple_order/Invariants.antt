use Rattle.std.proofs.Common.{length}
use Rattle.lq_plain.proofs.tuple.+tuple_order.Given as goal

abbrev pub decreases-tuple_order : goal.decreases-tuple_order
decreases-tuple_order l = length l.a.now
