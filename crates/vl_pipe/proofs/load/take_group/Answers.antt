use Rattle.std.proofs.Common.{sym, subst, ◌∙◌}
use Rattle.vl_pipe.specs.Load.{StopsGroup}
use Rattle.vl_pipe.proofs.LoadLemmas.{if_err}
use Rattle.vl_pipe.proofs.RefusalLemmas.{names, numbers, stops_refused}
use Rattle.vl_pipe.proofs.load.take_group.Goals as goal

pub returns-in_err-insertion-clause-stopped : goal.returns-in_err-insertion-clause-stopped
returns-in_err-insertion-clause-stopped g c arrival reads =
    if_err c.from_residual.result _ _ c.from_residual.ensures.1
    (λ interrupt is. subst (StopsGroup _ _ _ _ _ _) (sym is)
    (stops_refused arrival c.args.group.body.items c.args.lines_before c.args.desk.now _ _ _ _
    c.in_err-insertion.field-0.0 (c.in_err-insertion.ensures.refused arrival reads)))

pub names_after-requires : goal.names_after-requires
names_after-requires g c =
    let reads = c.requires.read in
    let taken = c.in_ok-insertion.ensures.taken reads.0 reads.1 in
    rw (c.as_slice.ensures.value ∙ c.into_vec-refused.ensures) (numbers reads.0 c.args.group.body.items
    c.args.lines_before taken.0 c.in_ok-insertion.insertion.refused taken.1.intake taken.2 c.requires.numbers)

pub returns-in-Ok-clause-taken : goal.returns-in-Ok-clause-taken
returns-in-Ok-clause-taken g c arrival reads =
    let taken = c.in_ok-insertion.ensures.taken arrival reads in
    let named = (rw (c.as_slice.ensures.value ∙ c.into_vec-refused.ensures) at c.in_ok-refusals.ensures)
    ∙ names c.args.lines_before taken.0 c.in_ok-insertion.insertion.refused taken.2 in
    let text = c.as_bytes.ensures.value ∙ named in (
      taken.0,
      taken.1,
      rw text at c.in-Ok.ensures.ok,
    )

pub returns-clause-stopped : goal.returns-clause-stopped
returns-clause-stopped g c arrival reads =
    let taken = c.in_ok-insertion.ensures.taken arrival reads in
    let named = (rw (c.as_slice.ensures.value ∙ c.into_vec-refused.ensures) at c.in_ok-refusals.ensures)
    ∙ names c.args.lines_before taken.0 c.in_ok-insertion.insertion.refused taken.2 in
    let text = c.as_bytes.ensures.value ∙ named in
    let cut = rw text at c.in-Err.ensures.err in (
      taken.0,
      taken.1,
      record { len = cut.0; proper = cut.1; took = cut.2; failed = c.in-Err.ensures.cause.failed },
    )
