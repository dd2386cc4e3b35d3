use Rattle.std.proofs.Common.{refl}
use Rattle.lq_ast.specs.Patterns.{patterns_of_statistic}
use Rattle.lq_ast.specs.PipeView.{statistic}
use Rattle.lq_filter.proofs.Refusals.{counted_mapped, handed_on, readable_mapped, refused_mapped, unread_behind}
use Rattle.lq_filter.proofs.Refusals.{unread_counted, unread_readable, unread_refused}
use Rattle.lq_filter.proofs.pipes.read_functions.Goals as goal

pub returns-in_err-read_function-clause-refused : goal.returns-in_err-read_function-clause-refused
returns-in_err-read_function-clause-refused c =
    let here = unread_refused (λ func. patterns_of_statistic (statistic func)) c.args.funcs.now c.args.nth.now
    c.loop-func.func-index c.loop-func.nth c.loop-func.invariant c.func-item.result c.loop-func-test.true
    c.func-item.is c.in_err-read_function.field-0.0 c.in_err-read_function.ensures.refused in
    handed_on c.from_residual.result _ _ c.from_residual.ensures.1
    (refused_mapped patterns_of_statistic statistic c.args.funcs.now c.args.funcs.now refl c.args.nth.now _ here)

pub loop-func-preserved : goal.loop-func-preserved
loop-func-preserved c =
    unread_behind (λ func. patterns_of_statistic (statistic func)) c.args.funcs.now c.args.nth.now
    c.loop-func.func-index
    c.loop-func.nth c.loop-func.invariant c.func-item.result c.loop-func-test.true c.func-item.is
    c.read_function.new.nth (c.in_ok-read_function.ensures.counted refl) c.in_ok-read_function.ensures.readable

pub returns-clause-counted : goal.returns-clause-counted
returns-clause-counted c = λ _.
    counted_mapped patterns_of_statistic statistic c.args.funcs.now c.args.funcs.now refl c.args.nth.now c.loop-func.nth
    (unread_counted (λ func. patterns_of_statistic (statistic func)) c.args.funcs.now c.args.nth.now
    c.loop-func.func-index
    c.loop-func.nth c.loop-func.invariant c.loop-func-test.false)

pub returns-clause-readable : goal.returns-clause-readable
returns-clause-readable c =
    readable_mapped patterns_of_statistic statistic c.args.funcs.now c.args.funcs.now refl
    (unread_readable (λ func. patterns_of_statistic (statistic func)) c.args.funcs.now c.args.nth.now
    c.loop-func.func-index
    c.loop-func.nth c.loop-func.invariant c.loop-func-test.false)
