use Rattle.std.proofs.Common.{rules, ◌≡◌, ◌++◌, [], refl, sym, subst, ap, ◌∙◌}
use Rattle.lq_ast.specs.Grouping.{grouped}
use Rattle.lq_ast.specs.PipeView.{grouping}
use Rattle.lq_pipes.specs.RowRecords.{records_left}
use Rattle.lq_pipes.specs.Faults.{IsMadeFault, of_statistics}
use Rattle.lq_stats.specs.Finish.{IsFault}
use Rattle.lq_pipes.proofs.Refusing.{handed_on, made_fault}
use Rattle.lq_pipes.proofs.Rowwise.{pieces_end, pieces_more}
use Rattle.lq_pipes.proofs.rows.statistics_of_rows.Goals as goal

pub loop-rows-init : goal.loop-rows-init
loop-rows-init g c =
    let by = grouping c.args.pipe.now in
    record {
      done = [];
      taken = c.in_ok-gathered.ensures.same by c.requires.planned;
      split = refl;
      few = c.requires.few;
    }

pub loop-rows-preserved : goal.loop-rows-preserved
loop-rows-preserved g c =
    let by = grouping c.args.pipe.now in
    let here = c.loop-rows.invariant in
    let whole = records_left g.R.LentRow.event c.args.rows in
    let left = records_left g.R.LentRow.event c.loop-rows.rows in
    let rest = records_left g.R.LentRow.event c.next.new.self in
    let gives = rw c.in-Some.is at c.in_ok-records.ensures in
    let taken = rw c.as_slice.ensures at c.in_ok-add_all.ensures.taken in
    record {
      done = here.done ++ c.in-Some.records;
      taken = taken by here.done c.requires.planned here.taken;
      split = pieces_more whole here.done c.in-Some.records left rest here.split gives.0;
      few = here.few;
    }

pub returns-in_err-made-clause-fault : goal.returns-in_err-made-clause-fault
returns-in_err-made-clause-fault g c =
    let by = grouping c.args.pipe.now in
    let here = c.loop-rows.invariant in
    let fault = c.in_err-made.field-0.0 in
    let none : records_left g.R.LentRow.event c.loop-rows.rows ≡ [] = search rules in
    let all = pieces_end (records_left g.R.LentRow.event c.args.rows) here.done (records_left g.R.LentRow.event c.loop-rows.rows) here.split none in
    let failed = subst (λ records. IsFault (grouped by records) fault) all
    (c.in_err-made.ensures.fault by here.done c.requires.planned here.taken) in
    handed_on c.from_residual-in_err-made.result (IsMadeFault (grouped by (records_left g.R.LentRow.event c.args.rows)))
    (of_statistics fault) c.from_residual-in_err-made.ensures.1
    (made_fault (grouped by (records_left g.R.LentRow.event c.args.rows)) fault failed)

pub returns-clause-ok : goal.returns-clause-ok
returns-clause-ok g c =
    let by = grouping c.args.pipe.now in
    let here = c.loop-rows.invariant in
    let none : records_left g.R.LentRow.event c.loop-rows.rows ≡ [] = search rules in
    let all = pieces_end (records_left g.R.LentRow.event c.args.rows) here.done (records_left g.R.LentRow.event c.loop-rows.rows) here.split none in
    ap (grouped by) (sym all) ∙ c.in_ok-made.ensures.made by here.done c.requires.planned here.taken
