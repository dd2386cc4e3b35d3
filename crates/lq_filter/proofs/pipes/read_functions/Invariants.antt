use Rattle.lq_ast.specs.Patterns.{patterns_of_statistic}
use Rattle.lq_ast.specs.PipeView.{statistic}
use Rattle.lq_filter.proofs.Refusals.{Unread}
use Rattle.lq_filter.proofs.pipes.read_functions.Given as goal

abbrev pub invariant-loop-func : goal.invariant-loop-func
invariant-loop-func l = Unread (λ func. patterns_of_statistic (statistic func)) l.funcs l.fn.nth l.func-index l.nth
