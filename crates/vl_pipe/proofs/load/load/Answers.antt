use Rattle.std.proofs.Common.{Ok, ap, arith, refl, sym, subst, ◌∙◌}
use Rattle.log_model.specs.History.{batches_in}
use Rattle.vl_pipe.specs.Load.{StopsLoad}
use Rattle.vl_pipe.proofs.LoadLemmas.{if_err, loaded, loading_starts, reads_on, run_on, stops_reading}
use Rattle.vl_pipe.proofs.LoadLemmas.{stops_unopened, stops_unsettled, turns_on}
use Rattle.vl_pipe.proofs.load.load.Goals as goal

pub returns-in_err-reader-clause-stopped : goal.returns-in_err-reader-clause-stopped
returns-in_err-reader-clause-stopped g c =
    if_err c.from_residual.result _ _ c.from_residual.ensures.1
    (λ interrupt is. subst (StopsLoad _ _ _) (sym is)
    (stops_unopened c.args.arrival.now (g.S.Source.left c.args.src.now) _ _
    (g.E.Sink.written c.args.err.now) _ _))

pub windows-init : goal.windows-init
windows-init g c = record {
  loading =
      loading_starts c.args.arrival.now _ _ _ _ _ c.in_ok-reader.reader c.args.desk.now c.in_ok-reader.ensures
      c.requires.opened;
  settled = refl;
  some = omega arith;
  few = omega arith;
}

pub take_groups-requires : goal.take_groups-requires
take_groups-requires g c =
    let l = c.windows.invariant.loading in
    let w = c.read_window-groups.ensures.window in
    record {
      next = (
        run_on c.args.arrival.now _ _ _ _ _ _ _ _ _ _ _ _ _ _ _ _ _ l w,
        c.read_window-groups.ensures.read,
        reads_on c.args.arrival.now _ _ _ _ _ _ _ _ _ _ _ _ _ _ _ _ _ l w,
      );
      numbers = omega (arith, c.requires.numbers, c.windows.invariant.settled);
    }

pub returns-in_err-lines-clause-stopped : goal.returns-in_err-lines-clause-stopped
returns-in_err-lines-clause-stopped g c =
    let l = c.windows.invariant.loading in
    let w = c.read_window-groups.ensures.window in
    if_err c.from_residual-in_err-lines.result _ _ c.from_residual-in_err-lines.ensures.1
    (λ interrupt is. subst (StopsLoad _ _ _) (sym is)
    (c.in_err-lines.ensures.stopped (run_on c.args.arrival.now _ _ _ _ _ _ _ _ _ _ _ _ _ _ _ _ _ l w)
    c.read_window-groups.ensures.read (reads_on c.args.arrival.now _ _ _ _ _ _ _ _ _ _ _ _ _ _ _ _ _ l w)
    (c.windows.invariant.settled ∙ c.requires.settled)))

pub returns-in_err-more-clause-stopped : goal.returns-in_err-more-clause-stopped
returns-in_err-more-clause-stopped g c =
    let l = c.windows.invariant.loading in
    let w = c.read_window-groups.ensures.window in
    let under = c.in_ok-lines.ensures.taken (run_on c.args.arrival.now _ _ _ _ _ _ _ _ _ _ _ _ _ _ _ _ _ l w)
    c.read_window-groups.ensures.read (reads_on c.args.arrival.now _ _ _ _ _ _ _ _ _ _ _ _ _ _ _ _ _ l w) in
    if_err c.from_residual-in_err-more.result _ _ c.from_residual-in_err-more.ensures.1
    (λ interrupt is. subst (StopsLoad _ _ _) (sym is)
    (stops_unsettled c.args.arrival.now (batches_in c.args.desk.now.history) _ _ c.take_groups.new.desk
    c.take_groups.new.desk _
    (stops_reading c.args.arrival.now _ _ _ _ _ _ _ _ _ _ _ _ _ _ _ _ _ l w _ _ c.take_groups.new.desk
    c.in_ok-lines.lines under c.read_window-groups.ensures.faults c.in_err-more.field-0.0 c.in_err-more.was)
    (c.in_ok-lines.ensures.settled ∙ c.windows.invariant.settled ∙ c.requires.settled)))

pub returns-then-not-branch-clause-loaded : goal.returns-then-not-branch-clause-loaded
returns-then-not-branch-clause-loaded g c =
    let l = c.windows.invariant.loading in
    let w = c.read_window-groups.ensures.window in
    let under = c.in_ok-lines.ensures.taken (run_on c.args.arrival.now _ _ _ _ _ _ _ _ _ _ _ _ _ _ _ _ _ l w)
    c.read_window-groups.ensures.read (reads_on c.args.arrival.now _ _ _ _ _ _ _ _ _ _ _ _ _ _ _ _ _ l w) in
    loaded c.args.arrival.now _ _ _ _ _ _ _ _ _ _ _ _ _ _ _ _ _ l w _ _ c.take_groups.new.desk
    c.in_ok-lines.lines under c.read_window-groups.ensures.faults (c.in_ok-more.was ∙ ap Ok c.if-not-branch.true)

pub windows-preserved : goal.windows-preserved
windows-preserved g c =
    let l = c.windows.invariant.loading in
    let w = c.read_window-groups.ensures.window in
    let under = c.in_ok-lines.ensures.taken (run_on c.args.arrival.now _ _ _ _ _ _ _ _ _ _ _ _ _ _ _ _ _ l w)
    c.read_window-groups.ensures.read (reads_on c.args.arrival.now _ _ _ _ _ _ _ _ _ _ _ _ _ _ _ _ _ l w) in
    record {
      loading = turns_on c.args.arrival.now _ _ _ _ _ _ _ _ _ _ _ _ _ _ _ _ _ l w _ _ c.take_groups.new.desk
          c.in_ok-lines.lines under c.read_window-groups.ensures.faults (c.in_ok-more.was ∙ ap Ok c.if-not-branch.false);
      settled = c.in_ok-lines.ensures.settled ∙ c.windows.invariant.settled;
      some = omega (arith, c.min-most.ensures, c.windows.invariant.some);
      few = omega (arith, c.min-most.ensures);
    }
