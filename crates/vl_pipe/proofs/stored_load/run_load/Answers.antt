use Rattle.std.proofs.Common.{ap, arith, length, refl, subst, sym}
use Rattle.log_model.specs.History.{batches_in}
use Rattle.vl_io.specs.Change.{Took, change_of}
use Rattle.vl_pipe.specs.StoredLoad.{LoadRun, LoadsAll}
use Rattle.vl_pipe.specs.Storing.{LoadsSafely, StopsStored}
use Rattle.vl_pipe.specs.VaultChange.{VaultChange, vault_change}
use Rattle.vl_pipe.proofs.LoadEndLemmas.{ends_stopped, load_unopened, survives_load, survives_unopened}
use Rattle.vl_pipe.proofs.QueryLemmas.{is_opened}
use Rattle.vl_pipe.proofs.stored_load.run_load.Goals as goal

pub returns-in-Err-clause-ends : goal.returns-in-Err-clause-ends
returns-in-Err-clause-ends g c =
    let run : LoadRun = record {
      arrival = c.args.arrival.now;
      source = change_of g.S.Source.left g.S.Source.faults c.args.src.now c.args.src.now;
      vault = vault_change g.V.Vault.past g.V.Vault.faults c.args.vault c.in-Err.refused.1;
      output = change_of g.O.Sink.written g.O.Sink.faults c.args.out.now c.args.out.now;
      errors = change_of g.E.Sink.written g.E.Sink.faults c.args.err.now c.open_desk.new.err;
    } in
    load_unopened g.V.Vault.is_told run c.in-Err.refused.0 c.in-Err.ensures.refused (refl, refl) refl

pub returns-in-Err-clause-survives : goal.returns-in-Err-clause-survives
returns-in-Err-clause-survives g c tells leaves held rows finds =
    let run : LoadRun = record {
      arrival = c.args.arrival.now;
      source = change_of g.S.Source.left g.S.Source.faults c.args.src.now c.args.src.now;
      vault = vault_change g.V.Vault.past g.V.Vault.faults c.args.vault c.in-Err.refused.1;
      output = change_of g.O.Sink.written g.O.Sink.faults c.args.out.now c.args.out.now;
      errors = change_of g.E.Sink.written g.E.Sink.faults c.args.err.now c.open_desk.new.err;
    } in
    survives_unopened held run.arrival (g.S.Source.left c.args.src.now) (g.S.Source.faults c.args.src.now)
    (g.O.Sink.written c.args.out.now) (g.O.Sink.faults c.args.out.now) run.errors run.vault
    (c.in-Err.ensures.moments tells leaves held finds)

pub returns-in-Ok-load_stored-clause-ends : goal.returns-in-Ok-load_stored-clause-ends
returns-in-Ok-load_stored-clause-ends g c =
    let told = g.V.Vault.is_told in
    let seen = c.in-Ok.opened.0 in
    let store = c.in-Ok.opened.1 in
    let batches = batches_in seen.history in
    let opened = is_opened told (g.V.Vault.past c.args.vault) store batches c.in-Ok.ensures.opened.0.whole
    c.in-Ok.ensures.holds in
    let run : LoadRun = record {
      arrival = c.args.arrival.now;
      source = change_of g.S.Source.left g.S.Source.faults c.args.src.now c.load_stored.new.src;
      vault = vault_change g.V.Vault.past g.V.Vault.faults c.args.vault c.into_vault.result;
      output = change_of g.O.Sink.written g.O.Sink.faults c.args.out.now c.load_stored.new.out;
      errors = change_of g.E.Sink.written g.E.Sink.faults c.args.err.now c.load_stored.new.err;
    } in (
      batches,
      opened,
      subst (λ err. LoadsAll run.arrival (length batches) run.source run.output
          (Took (change_of g.E.Sink.written g.E.Sink.faults err c.load_stored.new.err)))
          c.in-Ok.ensures.opened.1 c.in-Ok-load_stored.ensures.loaded,
    )

pub returns-in-Ok-load_stored-clause-survives : goal.returns-in-Ok-load_stored-clause-survives
returns-in-Ok-load_stored-clause-survives g c tells leaves held rows finds =
    let told = g.V.Vault.is_told in
    let seen = c.in-Ok.opened.0 in
    let store = c.in-Ok.opened.1 in
    let batches = batches_in seen.history in
    let opened = is_opened told (g.V.Vault.past c.args.vault) store batches c.in-Ok.ensures.opened.0.whole
    c.in-Ok.ensures.holds in
    let run : LoadRun = record {
      arrival = c.args.arrival.now;
      source = change_of g.S.Source.left g.S.Source.faults c.args.src.now c.load_stored.new.src;
      vault = vault_change g.V.Vault.past g.V.Vault.faults c.args.vault c.into_vault.result;
      output = change_of g.O.Sink.written g.O.Sink.faults c.args.out.now c.load_stored.new.out;
      errors = change_of g.E.Sink.written g.E.Sink.faults c.args.err.now c.load_stored.new.err;
    } in
    survives_load told store batches held run (g.V.Vault.past store.vault) c.in-Ok.ensures.opened.0.whole
    ((c.in-Ok.ensures.holds tells).images leaves held rows finds) tells
    (c.in-Ok.ensures.moments tells leaves held finds)
    (subst (λ v. LoadsSafely told run.arrival batches run.source run.output (g.V.Vault.past store.vault)
    (g.V.Vault.past v)) (sym c.into_vault.ensures) c.load_stored.ensures.safe)

pub returns-in-Ok-load_stored-clause-stays : goal.returns-in-Ok-load_stored-clause-stays
returns-in-Ok-load_stored-clause-stays g c =
    omega (arith, c.in-Ok.ensures.stays, c.load_stored.ensures.stays, ap g.V.Vault.faults c.into_vault.ensures)

pub returns-in-Err-load_stored-clause-ends : goal.returns-in-Err-load_stored-clause-ends
returns-in-Err-load_stored-clause-ends g c =
    let told = g.V.Vault.is_told in
    let seen = c.in-Ok.opened.0 in
    let store = c.in-Ok.opened.1 in
    let batches = batches_in seen.history in
    let opened = is_opened told (g.V.Vault.past c.args.vault) store batches c.in-Ok.ensures.opened.0.whole
    c.in-Ok.ensures.holds in
    let run : LoadRun = record {
      arrival = c.args.arrival.now;
      source = change_of g.S.Source.left g.S.Source.faults c.args.src.now c.load_stored.new.src;
      vault = vault_change g.V.Vault.past g.V.Vault.faults c.args.vault c.into_vault-in-Err-load_stored.result;
      output = change_of g.O.Sink.written g.O.Sink.faults c.args.out.now c.load_stored.new.out;
      errors = change_of g.E.Sink.written g.E.Sink.faults c.args.err.now c.report_stop.new.err;
    } in
    let keeper = c.load_stored.new.stored.keeper in
    let since : VaultChange = vault_change g.V.Vault.past g.V.Vault.faults store.vault keeper.vault in
    ends_stopped told run.arrival run.source run.output run.vault since (g.E.Sink.written c.args.err.now)
    (g.E.Sink.written c.load_stored.new.err) (g.E.Sink.written c.report_stop.new.err)
    (g.E.Sink.faults c.args.err.now) (g.E.Sink.faults c.load_stored.new.err)
    (g.E.Sink.faults c.report_stop.new.err)
    (omega (arith, c.load_stored.ensures.faults, ap g.E.Sink.faults c.in-Ok.ensures.opened.1)) batches opened
    (ap g.V.Vault.past (sym c.into_vault-in-Err-load_stored.ensures)) c.in-Ok.ensures.stays
    (ap g.V.Vault.faults (sym c.into_vault-in-Err-load_stored.ensures)) c.in-Err-load_stored.stop c.report_stop.result
    (subst (λ err. StopsStored told run.arrival batches run.source run.output
    (change_of g.E.Sink.written g.E.Sink.faults err c.load_stored.new.err) since c.in-Err-load_stored.stop)
    c.in-Ok.ensures.opened.1 c.in-Err-load_stored.ensures.stopped) c.report_stop.ensures

pub returns-in-Err-load_stored-clause-survives : goal.returns-in-Err-load_stored-clause-survives
returns-in-Err-load_stored-clause-survives g c tells leaves held rows finds =
    let told = g.V.Vault.is_told in
    let seen = c.in-Ok.opened.0 in
    let store = c.in-Ok.opened.1 in
    let batches = batches_in seen.history in
    let opened = is_opened told (g.V.Vault.past c.args.vault) store batches c.in-Ok.ensures.opened.0.whole
    c.in-Ok.ensures.holds in
    let run : LoadRun = record {
      arrival = c.args.arrival.now;
      source = change_of g.S.Source.left g.S.Source.faults c.args.src.now c.load_stored.new.src;
      vault = vault_change g.V.Vault.past g.V.Vault.faults c.args.vault c.into_vault-in-Err-load_stored.result;
      output = change_of g.O.Sink.written g.O.Sink.faults c.args.out.now c.load_stored.new.out;
      errors = change_of g.E.Sink.written g.E.Sink.faults c.args.err.now c.report_stop.new.err;
    } in
    survives_load told store batches held run (g.V.Vault.past store.vault) c.in-Ok.ensures.opened.0.whole
    ((c.in-Ok.ensures.holds tells).images leaves held rows finds) tells
    (c.in-Ok.ensures.moments tells leaves held finds)
    (subst (λ v. LoadsSafely told run.arrival batches run.source run.output (g.V.Vault.past store.vault)
    (g.V.Vault.past v)) (sym c.into_vault-in-Err-load_stored.ensures) c.load_stored.ensures.safe)

pub returns-in-Err-load_stored-clause-stays : goal.returns-in-Err-load_stored-clause-stays
returns-in-Err-load_stored-clause-stays g c =
    omega (
      arith,
      c.in-Ok.ensures.stays,
      c.load_stored.ensures.stays,
      ap g.V.Vault.faults
          c.into_vault-in-Err-load_stored.ensures,
    )
