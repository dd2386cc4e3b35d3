-- The keys by which records are grouped.
use Rattle.lq_ast.specs.Stage.{GroupBy}
use Rattle.lq_stats.specs.declared.key.Key.{Key}

abbrev pub grouped_by : Key → GroupBy
grouped_by k = (k.name, k.step)
