use Rattle.std.proofs.Common.{map}
use Rattle.lq_ast.specs.Patterns.{patterns_of_statistic}
use Rattle.lq_ast.specs.PipeView.{statistic}
use Rattle.lq_filter.proofs.Refusals.{Left}
use Rattle.lq_stats.specs.Function.{statistic_of}
use Rattle.lq_stats.proofs.functions.functions.Given as goal

abbrev pub invariant-loop-func : goal.invariant-loop-func
invariant-loop-func l =
    Left statistic (λ func. patterns_of_statistic (statistic func)) l.funcs l.fn.nth l.func-index
    (map statistic_of l.made.items) l.nth
