use Rattle.lq_stats.proofs.Finishing.{prepended_none}
use Rattle.lq_stats.proofs.finish.records.Goals as goal

pub loop-left-init : goal.loop-left-init
loop-left-init c = rw c.in_ok-records.ensures.items (prepended_none _)
