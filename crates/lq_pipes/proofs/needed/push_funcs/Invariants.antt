use Rattle.std.proofs.Common.{◌≡◌, ◌++◌, flat_map, map, take}
use Rattle.lq_ast.specs.PipeView.{statistic}
use Rattle.lq_pipes.specs.Needs.{asked_by_statistic}
use Rattle.lq_pipes.proofs.needed.push_funcs.Given as goal

abbrev pub invariant-loop-func : goal.invariant-loop-func
invariant-loop-func l = l.names.items ≡ l.initial.names.items ++ flat_map asked_by_statistic (map statistic
    (take l.func-index l.funcs))
