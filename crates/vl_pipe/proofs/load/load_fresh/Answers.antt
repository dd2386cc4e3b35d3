use Rattle.std.proofs.Common.{◌∙◌, ap, append-nil, arith, length, subst, sym}
use Rattle.log_model.specs.History.{batches_in}
use Rattle.vl_io.specs.Change.{change_of}
use Rattle.vl_pipe.specs.Load.{IsLoaded, StopsLoad}
use Rattle.vl_pipe.proofs.LoadLemmas.{if_err, stops_unopened}
use Rattle.vl_pipe.proofs.load.load_fresh.Goals as goal

pub returns-in_err-desk-clause-stopped : goal.returns-in_err-desk-clause-stopped
returns-in_err-desk-clause-stopped g c =
    if_err c.from_residual.result _ _ c.from_residual.ensures.1
    (λ interrupt is. subst (StopsLoad _ _ _) (sym is)
    (stops_unopened c.args.arrival.now (g.S.Source.left c.args.src.now) _ _
    (g.E.Sink.written c.args.err.now) _ _))

pub load-requires-clause-opened : goal.load-requires-clause-opened
load-requires-clause-opened g c lives within = record {
  entered = sym (append-nil (batches_in c.in_ok-desk.desk.history));
  few = omega (arith, ap length c.in_ok-desk.ensures.nothing);
}

pub load-requires-clause-settled : goal.load-requires-clause-settled
load-requires-clause-settled g c lives within =
    c.in_ok-desk.ensures.unsettled
    ∙ sym (ap (λ history. length (batches_in history)) c.in_ok-desk.ensures.nothing)

pub load-requires-clause-numbers : goal.load-requires-clause-numbers
load-requires-clause-numbers g c = omega (arith, c.in_ok-desk.ensures.unsettled)

pub returns-in_err-load-clause-stopped : goal.returns-in_err-load-clause-stopped
returns-in_err-load-clause-stopped g c =
    if_err c.from_residual-in_err-load.result _ _ c.from_residual-in_err-load.ensures.1
    (λ interrupt is. subst (StopsLoad _ _ _) (sym is) c.in_err-load.ensures.stopped)

pub returns-clause-loaded : goal.returns-clause-loaded
returns-clause-loaded g c =
    let source = change_of g.S.Source.left g.S.Source.faults c.args.src.now c.load.new.src in
    let errors = change_of g.E.Sink.written g.E.Sink.faults c.args.err.now c.load.new.err in
    subst (λ opened. IsLoaded c.args.arrival.now opened source errors c.load.new.desk)
    (ap batches_in c.in_ok-desk.ensures.nothing) c.in_ok-load.ensures.loaded

pub returns-clause-settled : goal.returns-clause-settled
returns-clause-settled g c = c.in_ok-load.ensures.settled ∙ c.in_ok-desk.ensures.unsettled
