use Rattle.std.proofs.Common.{FitsSigned, ap, inl, inr, refl, subst, sym, unsigned_abs, w64, ◌∙◌}
use Rattle.std.proofs.lemmas.Int.{fits_signed_from_abs, to_z-of_z}
use Rattle.vl_io.specs.Change.{change_of}
use Rattle.vl_io.proofs.Laws.{FirstTold-from_one}
use Rattle.vl_status.specs.Status.{status_number}
use Rattle.vl_pipe.specs.Pipe.{IsPiped}
use Rattle.vl_pipe.specs.Stored.{IsQueried}
use Rattle.vl_pipe.specs.StoredLoad.{EndsLoad, LoadSurvives}
use Rattle.vl_pipe.specs.VaultChange.{vault_change}
use Rattle.vl_serve.specs.Doors.{door_changes}
use Rattle.vl_top.proofs.RunLemmas.{command_runs, no_memory_runs, usage_runs}
use Rattle.vl_top.specs.Run.{Effects, EndsTask, Outlives, load_of, query_of}
use Rattle.vl_top.specs.Task.{task_of}
use Rattle.vl_top.proofs.run.Goals as goal

pub returns-in_default-clause-run : goal.returns-in_default-clause-run
returns-in_default-clause-run g c =
    no_memory_runs _ _ (refl, refl) c.report_no_memory.ensures.said refl
    (c.number.ensures ∙ ap status_number c.report_no_memory.ensures.status)

pub returns-in-Ok-Pipe-clause-run : goal.returns-in-Ok-Pipe-clause-run
returns-in-Ok-Pipe-clause-run g c =
    let does : Effects = record {
      source = change_of g.S.Source.left g.S.Source.faults c.args.src.now c.run_pipe.new.src;
      output = change_of g.O.Sink.written g.O.Sink.faults c.args.out.now c.run_pipe.new.out;
      errors = change_of g.E.Sink.written g.E.Sink.faults c.args.err.now c.run_pipe.new.err;
      vault = vault_change g.V.Vault.past g.V.Vault.faults c.args.vault c.args.vault;
      doors = door_changes g.D.Doors.left g.D.Doors.faults c.args.doors.now.items c.args.doors.now.items;
      moments_before = g.C.Clock.moments c.args.clock.now;
      moments_after = g.C.Clock.moments c.now.new.self;
    } in
    let fits : FitsSigned w64 c.now.result = fits_signed_from_abs w64 c.now.result c.now.ensures.in_range.0 in
    let came = simp to_z-of_z at c.in-Ok.ensures in
    let piped = subst (λ arrival. IsPiped (record {
      asked = record { arrival = arrival; query = c.in-Ok-Pipe.query };
      source = does.source;
      output = does.output;
      errors = does.errors;
    }) c.run_pipe.result) came c.run_pipe.ensures.ends in
    command_runs g.V.Vault.is_told _ (c.command_law.ensures _) c.in-Ok-Pipe.field-0 c.run_pipe.result
    c.in-Ok-Pipe.ensures.read
    (subst (λ command. EndsTask g.V.Vault.is_told does (task_of command) c.run_pipe.result) (sym c.in-Ok-Pipe.field-0-is)
    (unsigned_abs c.now.result, FirstTold-from_one _ _ _ c.now.ensures.told, piped))
    (λ tells held has. inr refl) c.number-in-Ok-Pipe.ensures

pub returns-in_default-at-clause-run : goal.returns-in_default-at-clause-run
returns-in_default-at-clause-run g c =
    no_memory_runs _ _ (refl, refl) c.report_no_memory-in_default-at.ensures.said refl
    (c.number-in_default-at.ensures ∙ ap status_number c.report_no_memory-in_default-at.ensures.status)

pub returns-in-Ok-Load-clause-run : goal.returns-in-Ok-Load-clause-run
returns-in-Ok-Load-clause-run g c =
    let does : Effects = record {
      source = change_of g.S.Source.left g.S.Source.faults c.args.src.now c.run_load-status.new.src;
      output = change_of g.O.Sink.written g.O.Sink.faults c.args.out.now c.run_load-status.new.out;
      errors = change_of g.E.Sink.written g.E.Sink.faults c.args.err.now c.run_load-status.new.err;
      vault = vault_change g.V.Vault.past g.V.Vault.faults c.args.vault c.run_load-status.result.1;
      doors = door_changes g.D.Doors.left g.D.Doors.faults c.args.doors.now.items c.args.doors.now.items;
      moments_before = g.C.Clock.moments c.args.clock.now;
      moments_after = g.C.Clock.moments c.now-in-Ok-Load.new.self;
    } in
    let now = c.now-in-Ok-Load.result in
    let fits : FitsSigned w64 now = fits_signed_from_abs w64 now c.now-in-Ok-Load.ensures.in_range.0 in
    let came = simp to_z-of_z at c.in-Ok-at.ensures in
    let first = FirstTold-from_one _ _ _ c.now-in-Ok-Load.ensures.told in
    let ends = subst (λ arrival. EndsLoad g.V.Vault.is_told (load_of does arrival) c.run_load-status.result.0) came
    c.run_load-status.ensures.ends in
    command_runs g.V.Vault.is_told _ (c.command_law.ensures _) c.in-Ok-Load.field-0 c.run_load-status.result.0
    c.in-Ok-Load.ensures.read
    (subst (λ command. EndsTask g.V.Vault.is_told does (task_of command) c.run_load-status.result.0)
    (sym c.in-Ok-Load.field-0-is) (unsigned_abs now, first, ends))
    (λ tells held has. inl (
      c.in-Ok-Load.field-0,
      c.in-Ok-Load.ensures.read,
      subst (λ command. Outlives does held (task_of command)) (sym c.in-Ok-Load.field-0-is) (
        unsigned_abs now,
        first,
        subst (λ arrival. LoadSurvives held (load_of does arrival)) came
            (c.run_load-status.ensures.survives tells has.leaves held has.rows has.images),
      ),
    ))
    c.number-in-Ok-Load.ensures

pub returns-in-Ok-Query-clause-run : goal.returns-in-Ok-Query-clause-run
returns-in-Ok-Query-clause-run g c =
    let does : Effects = record {
      source = change_of g.S.Source.left g.S.Source.faults c.args.src.now c.args.src.now;
      output = change_of g.O.Sink.written g.O.Sink.faults c.args.out.now c.run_query-status.new.out;
      errors = change_of g.E.Sink.written g.E.Sink.faults c.args.err.now c.run_query-status.new.err;
      vault = vault_change g.V.Vault.past g.V.Vault.faults c.args.vault c.run_query-status.result.1;
      doors = door_changes g.D.Doors.left g.D.Doors.faults c.args.doors.now.items c.args.doors.now.items;
      moments_before = g.C.Clock.moments c.args.clock.now;
      moments_after = g.C.Clock.moments c.now-in-Ok-Query.new.self;
    } in
    let now = c.now-in-Ok-Query.result in
    let fits : FitsSigned w64 now = fits_signed_from_abs w64 now c.now-in-Ok-Query.ensures.in_range.0 in
    let first = FirstTold-from_one _ _ _ c.now-in-Ok-Query.ensures.told in
    let ends = subst (λ text. IsQueried g.V.Vault.is_told (query_of does text (unsigned_abs now))
    c.run_query-status.result.0) c.as_str.ensures.value (simp to_z-of_z at c.run_query-status.ensures.ends) in
    command_runs g.V.Vault.is_told _ (c.command_law.ensures _) c.in-Ok-Query.field-0 c.run_query-status.result.0
    c.in-Ok-Query.ensures.read
    (subst (λ command. EndsTask g.V.Vault.is_told does (task_of command) c.run_query-status.result.0)
    (sym c.in-Ok-Query.field-0-is) ((refl, refl), (unsigned_abs now, first, ends)))
    (λ tells held has. inl (
      c.in-Ok-Query.field-0,
      c.in-Ok-Query.ensures.read,
      subst (λ command. Outlives does held (task_of command)) (sym c.in-Ok-Query.field-0-is)
          (c.run_query-status.ensures.survives tells has.leaves held has.images),
    ))
    c.number-in-Ok-Query.ensures

pub returns-in-Ok-Serve-clause-run : goal.returns-in-Ok-Serve-clause-run
returns-in-Ok-Serve-clause-run g c =
    let does : Effects = record {
      source = change_of g.S.Source.left g.S.Source.faults c.args.src.now c.args.src.now;
      output = change_of g.O.Sink.written g.O.Sink.faults c.args.out.now c.args.out.now;
      errors = change_of g.E.Sink.written g.E.Sink.faults c.args.err.now c.run_server-status.new.err;
      vault = vault_change g.V.Vault.past g.V.Vault.faults c.args.vault c.run_server-status.result.1;
      doors = door_changes g.D.Doors.left g.D.Doors.faults c.args.doors.now.items c.run_server-status.new.doors.items;
      moments_before = g.C.Clock.moments c.args.clock.now;
      moments_after = g.C.Clock.moments c.run_server-status.new.clock;
    } in
    command_runs g.V.Vault.is_told _ (c.command_law.ensures _) c.in-Ok-Serve.field-0 c.run_server-status.result.0
    c.in-Ok-Serve.ensures.read
    (subst (λ command. EndsTask g.V.Vault.is_told does (task_of command) c.run_server-status.result.0)
    (sym c.in-Ok-Serve.field-0-is) ((refl, refl), refl, c.run_server-status.ensures.ends))
    (λ tells held has. inl (
      c.in-Ok-Serve.field-0,
      c.in-Ok-Serve.ensures.read,
      subst (λ command. Outlives does held (task_of command)) (sym c.in-Ok-Serve.field-0-is)
          (c.run_server-status.ensures.outlives tells held has),
    ))
    c.number-in-Ok-Serve.ensures

pub returns-in-Err-Usage-clause-run : goal.returns-in-Err-Usage-clause-run
returns-in-Err-Usage-clause-run g c =
    usage_runs _ _ (c.in-Err-Usage.ensures.usage c.in-Err-Usage.field-0-is) c.report_usage.ensures.said refl
    (c.number-in-Err-Usage.ensures ∙ ap status_number c.report_usage.ensures.status)
