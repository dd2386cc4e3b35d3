use Rattle.std.proofs.Common.{◌≡◌, map, take}
use Rattle.lq_ast.specs.PipeView.{group_by}
use Rattle.lq_stats.specs.Key.{grouped_by}
use Rattle.lq_stats.proofs.keys.keys.Given as goal

abbrev pub invariant-loop-key : goal.invariant-loop-key
invariant-loop-key l = map grouped_by l.made.items ≡ map group_by (take l.key-index l.keys)
