use Rattle.lq_prune.proofs.Pruning.{misses_none_of_all}
use Rattle.lq_prune.proofs.law.pruning_law.Goals as goal

pub returns : goal.returns
returns c now condition = misses_none_of_all now condition
