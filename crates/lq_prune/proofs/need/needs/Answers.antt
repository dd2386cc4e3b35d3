use Rattle.lq_ast.specs.View.{condition}
use Rattle.lq_prune.proofs.Pruning.{misses_none}
use Rattle.lq_prune.proofs.need.needs.Goals as goal

pub returns-clause-none_missed : goal.returns-clause-none_missed
returns-clause-none_missed c = misses_none c.args.now (condition c.args.q.now.filter) c.in_ok-tree.ensures.texts
