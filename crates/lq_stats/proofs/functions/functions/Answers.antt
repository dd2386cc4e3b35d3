use Rattle.std.proofs.Common.{map, refl}
use Rattle.lq_ast.specs.Patterns.{patterns_of_statistic}
use Rattle.lq_ast.specs.PipeView.{statistic}
use Rattle.lq_ast.specs.declared.pipe.Func.{Func}
use Rattle.lq_filter.proofs.Refusals.{all_counted, all_readable, counted_mapped, handed_on, left_behind, map_one_more}
use Rattle.lq_filter.proofs.Refusals.{readable_mapped, refused_here, refused_mapped}
use Rattle.lq_stats.specs.Function.{statistic_of}
use Rattle.lq_stats.proofs.functions.functions.Goals as goal

pub loop-func-preserved : goal.loop-func-preserved
loop-func-preserved c =
    let funcs = c.args.funcs.now in
    let patterns = λ (func : Func). patterns_of_statistic (statistic func) in
    let made = map statistic_of c.loop-func.made.items in
    let behind = left_behind statistic patterns funcs c.args.nth.now c.loop-func.func-index made c.loop-func.nth
    c.loop-func.invariant c.func-item.result c.loop-func-test.true c.func-item.is (statistic_of c.in_ok-of.field-0)
    c.of.new.nth c.in_ok-of.ensures.same (c.in_ok-of.ensures.counted refl) c.in_ok-of.ensures.readable in
    rw (map_one_more statistic_of c.loop-func.made.items c.push.new.self.items c.in_ok-of.field-0
    c.in_ok-push.ensures.items) behind

pub returns-in_err-of-clause-refused : goal.returns-in_err-of-clause-refused
returns-in_err-of-clause-refused c =
    let funcs = c.args.funcs.now in
    let patterns = λ (func : Func). patterns_of_statistic (statistic func) in
    let here = refused_here statistic patterns funcs c.args.nth.now c.loop-func.func-index
    (map statistic_of c.loop-func.made.items)
    c.loop-func.nth c.loop-func.invariant c.func-item.result c.loop-func-test.true c.func-item.is c.in_err-of.field-0.0
    c.in_err-of.ensures.refused in
    handed_on c.from_residual-in_err-of.result _ _ c.from_residual-in_err-of.ensures.1
    (refused_mapped patterns_of_statistic statistic funcs funcs refl c.args.nth.now _ here)

pub returns-clause-readable : goal.returns-clause-readable
returns-clause-readable c =
    let funcs = c.args.funcs.now in
    let patterns = λ (func : Func). patterns_of_statistic (statistic func) in
    readable_mapped patterns_of_statistic statistic funcs funcs refl
    (all_readable statistic patterns funcs c.args.nth.now c.loop-func.func-index (map statistic_of c.loop-func.made.items)
    c.loop-func.nth c.loop-func.invariant c.loop-func-test.false)

pub returns-clause-counted : goal.returns-clause-counted
returns-clause-counted c = λ _.
    let funcs = c.args.funcs.now in
    let patterns = λ (func : Func). patterns_of_statistic (statistic func) in
    counted_mapped patterns_of_statistic statistic funcs funcs refl c.args.nth.now c.loop-func.nth
    (all_counted statistic patterns funcs c.args.nth.now c.loop-func.func-index
    (map statistic_of c.loop-func.made.items) c.loop-func.nth c.loop-func.invariant c.loop-func-test.false)
