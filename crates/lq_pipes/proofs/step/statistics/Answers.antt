use Rattle.std.proofs.Common.{[], ap, sym, ◌∙◌}
use Rattle.lq_ast.specs.Grouping.{grouped}
use Rattle.lq_ast.specs.PipeView.{grouping}
use Rattle.lq_pipes.specs.Faults.{IsMadeFault, of_statistics}
use Rattle.lq_pipes.proofs.Refusing.{handed_on, made_fault}
use Rattle.lq_pipes.proofs.step.statistics.Goals as goal

pub returns-clause-ok : goal.returns-clause-ok
returns-clause-ok c =
    let g = grouping c.args.pipe.now in
    let planned = c.requires.planned in
    let taken = c.in_ok-add_all.ensures.taken g [] planned (c.in_ok-gathered.ensures.same g planned) in
    ap (grouped g) (sym c.as_slice.ensures) ∙ c.in_ok-made.ensures.made g c.as_slice.result.now planned taken

pub returns-in_err-made-clause-fault : goal.returns-in_err-made-clause-fault
returns-in_err-made-clause-fault c =
    let g = grouping c.args.pipe.now in
    let planned = c.requires.planned in
    let fault = c.in_err-made.field-0.0 in
    let taken = c.in_ok-add_all.ensures.taken g [] planned (c.in_ok-gathered.ensures.same g planned) in
    let here = c.in_err-made.ensures.fault g c.as_slice.result.now planned taken in
    let made = rw c.as_slice.ensures at here in
    handed_on c.from_residual-in_err-made.result (IsMadeFault (grouped g c.args.r)) (of_statistics fault)
    c.from_residual-in_err-made.ensures.1 (made_fault (grouped g c.args.r) fault made)
