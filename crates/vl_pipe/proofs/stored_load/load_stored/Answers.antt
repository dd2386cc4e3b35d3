use Rattle.std.proofs.Common.{Ok, ap, arith, sym, subst, ◌∙◌}
use Rattle.log_model.specs.History.{batches_in}
use Rattle.vl_io.specs.Change.{change_of}
use Rattle.vl_pipe.specs.Interrupt.{interrupt_at}
use Rattle.vl_pipe.specs.Storing.{Base, StopsStored}
use Rattle.vl_pipe.specs.VaultChange.{vault_change}
use Rattle.vl_pipe.proofs.LoadLemmas.{if_err, loaded, loading_starts, reads_on, run_on, stops_reading, turns_on}
use Rattle.vl_pipe.proofs.StoringLemmas.{ends_rest, held_none, storing_starts, stopped_holding, stopped_unread}
use Rattle.vl_pipe.proofs.stored_load.load_stored.Goals as goal

pub windows-init : goal.windows-init
windows-init g c =
    let stored = c.args.stored.now in
    let opened = c.requires.opened in
    record {
      loading =
          loading_starts c.args.arrival.now _ _ _ _ _ c.in_ok-reader.reader stored.desk c.in_ok-reader.ensures
          (held_none stored.keeper stored.desk opened);
      storing =
          storing_starts g.V.Vault.is_told g.V.Vault.past g.V.Vault.faults stored.keeper stored.desk stored.count
          (g.O.Sink.written c.args.out.now) (g.O.Sink.faults c.args.out.now) opened c.requires.counted
          (λ tells. c.finds_law.ensures tells opened.on);
      room = omega (arith, c.requires.counted);
      some = omega arith;
      few = omega arith;
    }

pub returns-in_err-reader-clause-stopped : goal.returns-in_err-reader-clause-stopped
returns-in_err-reader-clause-stopped g c =
    let base : Base = record {
      start = g.V.Vault.past c.args.stored.now.keeper.vault;
      faults = g.V.Vault.faults c.args.stored.now.keeper.vault;
      written = g.O.Sink.written c.args.out.now;
      failed = g.O.Sink.faults c.args.out.now;
    } in
    let stored = c.args.stored.now in
    let opened = c.requires.opened in
    let starts = storing_starts g.V.Vault.is_told g.V.Vault.past g.V.Vault.faults stored.keeper stored.desk stored.count
    (g.O.Sink.written c.args.out.now) (g.O.Sink.faults c.args.out.now) opened c.requires.counted
    (λ tells. c.finds_law.ensures tells opened.on) in
    let stopped = stopped_unread g.V.Vault.is_told g.V.Vault.past g.V.Vault.faults c.args.arrival.now
    (g.S.Source.left c.args.src.now) (g.S.Source.faults c.args.src.now) (g.S.Source.faults c.args.src.now)
    (g.E.Sink.written c.args.err.now) (g.E.Sink.faults c.args.err.now) (g.E.Sink.faults c.args.err.now) base
    stored.keeper stored.desk stored.count (g.O.Sink.written c.args.out.now) (g.O.Sink.faults c.args.out.now) opened
    starts (omega (arith, c.requires.counted)) in
    if_err c.from_residual.result _ _ c.from_residual.ensures.1
    (λ stop is. subst (StopsStored g.V.Vault.is_told c.args.arrival.now (batches_in c.args.stored.now.desk.history)
    (change_of g.S.Source.left g.S.Source.faults c.args.src.now c.args.src.now)
    (change_of g.O.Sink.written g.O.Sink.faults c.args.out.now c.args.out.now)
    (change_of g.E.Sink.written g.E.Sink.faults c.args.err.now c.args.err.now)
    (vault_change g.V.Vault.past g.V.Vault.faults c.args.stored.now.keeper.vault c.args.stored.now.keeper.vault))
    (sym is) stopped.stops)

pub returns-in_err-reader-clause-safe : goal.returns-in_err-reader-clause-safe
returns-in_err-reader-clause-safe g c =
    let base : Base = record {
      start = g.V.Vault.past c.args.stored.now.keeper.vault;
      faults = g.V.Vault.faults c.args.stored.now.keeper.vault;
      written = g.O.Sink.written c.args.out.now;
      failed = g.O.Sink.faults c.args.out.now;
    } in
    let stored = c.args.stored.now in
    let opened = c.requires.opened in
    let starts = storing_starts g.V.Vault.is_told g.V.Vault.past g.V.Vault.faults stored.keeper stored.desk stored.count
    (g.O.Sink.written c.args.out.now) (g.O.Sink.faults c.args.out.now) opened c.requires.counted
    (λ tells. c.finds_law.ensures tells opened.on) in
    let stopped = stopped_unread g.V.Vault.is_told g.V.Vault.past g.V.Vault.faults c.args.arrival.now
    (g.S.Source.left c.args.src.now) (g.S.Source.faults c.args.src.now) (g.S.Source.faults c.args.src.now)
    (g.E.Sink.written c.args.err.now) (g.E.Sink.faults c.args.err.now) (g.E.Sink.faults c.args.err.now) base
    stored.keeper stored.desk stored.count (g.O.Sink.written c.args.out.now) (g.O.Sink.faults c.args.out.now) opened
    starts (omega (arith, c.requires.counted)) in
    stopped.safely

pub store_groups-requires : goal.store_groups-requires
store_groups-requires g c =
    let i = c.windows.invariant in
    let w = c.read_window-groups.ensures.window in
    record {
      next = (
        run_on c.args.arrival.now _ _ _ _ _ _ _ _ _ _ _ _ _ _ _ _ _ i.loading w,
        _,
        c.read_window-groups.ensures.read,
        reads_on c.args.arrival.now _ _ _ _ _ _ _ _ _ _ _ _ _ _ _ _ _ i.loading w,
        i.storing,
        i.room,
      );
    }

pub returns-in_err-lines-clause-stopped : goal.returns-in_err-lines-clause-stopped
returns-in_err-lines-clause-stopped g c =
    let i = c.windows.invariant in
    let w = c.read_window-groups.ensures.window in
    let run = run_on c.args.arrival.now _ _ _ _ _ _ _ _ _ _ _ _ _ _ _ _ _ i.loading w in
    let under = reads_on c.args.arrival.now _ _ _ _ _ _ _ _ _ _ _ _ _ _ _ _ _ i.loading w in
    let base : Base = record {
      start = g.V.Vault.past c.args.stored.now.keeper.vault;
      faults = g.V.Vault.faults c.args.stored.now.keeper.vault;
      written = g.O.Sink.written c.args.out.now;
      failed = g.O.Sink.faults c.args.out.now;
    } in
    let stopped = c.in_err-lines.ensures.stopped run base c.read_window-groups.ensures.read under i.storing i.room in
    if_err c.from_residual-in_err-lines.result _ _ c.from_residual-in_err-lines.ensures.1
    (λ stop is. subst (StopsStored g.V.Vault.is_told c.args.arrival.now (batches_in c.args.stored.now.desk.history)
    (change_of g.S.Source.left g.S.Source.faults c.args.src.now c.read_window-groups.new.src)
    (change_of g.O.Sink.written g.O.Sink.faults c.args.out.now c.store_groups.new.out)
    (change_of g.E.Sink.written g.E.Sink.faults c.args.err.now c.store_groups.new.err)
    (vault_change g.V.Vault.past g.V.Vault.faults c.args.stored.now.keeper.vault
    c.store_groups.new.stored.keeper.vault)) (sym is) stopped.stops)

pub returns-in_err-lines-clause-safe : goal.returns-in_err-lines-clause-safe
returns-in_err-lines-clause-safe g c =
    let i = c.windows.invariant in
    let w = c.read_window-groups.ensures.window in
    let run = run_on c.args.arrival.now _ _ _ _ _ _ _ _ _ _ _ _ _ _ _ _ _ i.loading w in
    let under = reads_on c.args.arrival.now _ _ _ _ _ _ _ _ _ _ _ _ _ _ _ _ _ i.loading w in
    let base : Base = record {
      start = g.V.Vault.past c.args.stored.now.keeper.vault;
      faults = g.V.Vault.faults c.args.stored.now.keeper.vault;
      written = g.O.Sink.written c.args.out.now;
      failed = g.O.Sink.faults c.args.out.now;
    } in
    let stopped = c.in_err-lines.ensures.stopped run base c.read_window-groups.ensures.read under i.storing i.room in
    stopped.safely

pub returns-in_err-lines-clause-stays : goal.returns-in_err-lines-clause-stays
returns-in_err-lines-clause-stays g c =
    let i = c.windows.invariant in
    let w = c.read_window-groups.ensures.window in
    let run = run_on c.args.arrival.now _ _ _ _ _ _ _ _ _ _ _ _ _ _ _ _ _ i.loading w in
    let under = reads_on c.args.arrival.now _ _ _ _ _ _ _ _ _ _ _ _ _ _ _ _ _ i.loading w in
    let base : Base = record {
      start = g.V.Vault.past c.args.stored.now.keeper.vault;
      faults = g.V.Vault.faults c.args.stored.now.keeper.vault;
      written = g.O.Sink.written c.args.out.now;
      failed = g.O.Sink.faults c.args.out.now;
    } in
    let stopped = c.in_err-lines.ensures.stopped run base c.read_window-groups.ensures.read under i.storing i.room in
    stopped.risen

pub returns-in_err-more-clause-stopped : goal.returns-in_err-more-clause-stopped
returns-in_err-more-clause-stopped g c =
    let i = c.windows.invariant in
    let w = c.read_window-groups.ensures.window in
    let run = run_on c.args.arrival.now _ _ _ _ _ _ _ _ _ _ _ _ _ _ _ _ _ i.loading w in
    let under = reads_on c.args.arrival.now _ _ _ _ _ _ _ _ _ _ _ _ _ _ _ _ _ i.loading w in
    let base : Base = record {
      start = g.V.Vault.past c.args.stored.now.keeper.vault;
      faults = g.V.Vault.faults c.args.stored.now.keeper.vault;
      written = g.O.Sink.written c.args.out.now;
      failed = g.O.Sink.faults c.args.out.now;
    } in
    let taken = c.in_ok-lines.ensures.taken run base c.read_window-groups.ensures.read under i.storing i.room in
    let source = change_of g.S.Source.left g.S.Source.faults c.args.src.now c.read_window-groups.new.src in
    let errors = change_of g.E.Sink.written g.E.Sink.faults c.args.err.now c.store_groups.new.err in
    let stops = stops_reading c.args.arrival.now _ _ _ _ _ _ _ _ _ _ _ _ _ _ _ _ _ i.loading w _ _
    c.store_groups.new.stored.desk
    c.in_ok-lines.lines taken.0 c.read_window-groups.ensures.faults c.in_err-more.field-0.0 c.in_err-more.was in
    let stopped = stopped_holding g.V.Vault.is_told g.V.Vault.past g.V.Vault.faults
    (batches_in c.args.stored.now.desk.history) base c.store_groups.new.stored.keeper c.store_groups.new.stored.desk
    c.store_groups.new.stored.count (g.O.Sink.written c.store_groups.new.out) (g.O.Sink.faults c.store_groups.new.out)
    taken.1 c.args.arrival.now source errors c.store_groups.new.stored.desk (interrupt_at c.in_err-more.field-0.0) stops
    c.in_ok-lines.ensures.room in
    if_err c.from_residual-in_err-more.result _ _ c.from_residual-in_err-more.ensures.1
    (λ stop is. subst (StopsStored g.V.Vault.is_told c.args.arrival.now (batches_in c.args.stored.now.desk.history)
    (change_of g.S.Source.left g.S.Source.faults c.args.src.now c.read_window-groups.new.src)
    (change_of g.O.Sink.written g.O.Sink.faults c.args.out.now c.store_groups.new.out)
    (change_of g.E.Sink.written g.E.Sink.faults c.args.err.now c.store_groups.new.err)
    (vault_change g.V.Vault.past g.V.Vault.faults c.args.stored.now.keeper.vault
    c.store_groups.new.stored.keeper.vault)) (sym is) stopped.stops)

pub returns-in_err-more-clause-safe : goal.returns-in_err-more-clause-safe
returns-in_err-more-clause-safe g c =
    let i = c.windows.invariant in
    let w = c.read_window-groups.ensures.window in
    let run = run_on c.args.arrival.now _ _ _ _ _ _ _ _ _ _ _ _ _ _ _ _ _ i.loading w in
    let under = reads_on c.args.arrival.now _ _ _ _ _ _ _ _ _ _ _ _ _ _ _ _ _ i.loading w in
    let base : Base = record {
      start = g.V.Vault.past c.args.stored.now.keeper.vault;
      faults = g.V.Vault.faults c.args.stored.now.keeper.vault;
      written = g.O.Sink.written c.args.out.now;
      failed = g.O.Sink.faults c.args.out.now;
    } in
    let taken = c.in_ok-lines.ensures.taken run base c.read_window-groups.ensures.read under i.storing i.room in
    let source = change_of g.S.Source.left g.S.Source.faults c.args.src.now c.read_window-groups.new.src in
    let errors = change_of g.E.Sink.written g.E.Sink.faults c.args.err.now c.store_groups.new.err in
    let stops = stops_reading c.args.arrival.now _ _ _ _ _ _ _ _ _ _ _ _ _ _ _ _ _ i.loading w _ _
    c.store_groups.new.stored.desk
    c.in_ok-lines.lines taken.0 c.read_window-groups.ensures.faults c.in_err-more.field-0.0 c.in_err-more.was in
    let stopped = stopped_holding g.V.Vault.is_told g.V.Vault.past g.V.Vault.faults
    (batches_in c.args.stored.now.desk.history) base c.store_groups.new.stored.keeper c.store_groups.new.stored.desk
    c.store_groups.new.stored.count (g.O.Sink.written c.store_groups.new.out) (g.O.Sink.faults c.store_groups.new.out)
    taken.1 c.args.arrival.now source errors c.store_groups.new.stored.desk (interrupt_at c.in_err-more.field-0.0) stops
    c.in_ok-lines.ensures.room in
    stopped.safely

pub returns-in_err-more-clause-stays : goal.returns-in_err-more-clause-stays
returns-in_err-more-clause-stays g c =
    let i = c.windows.invariant in
    let w = c.read_window-groups.ensures.window in
    let run = run_on c.args.arrival.now _ _ _ _ _ _ _ _ _ _ _ _ _ _ _ _ _ i.loading w in
    let under = reads_on c.args.arrival.now _ _ _ _ _ _ _ _ _ _ _ _ _ _ _ _ _ i.loading w in
    let base : Base = record {
      start = g.V.Vault.past c.args.stored.now.keeper.vault;
      faults = g.V.Vault.faults c.args.stored.now.keeper.vault;
      written = g.O.Sink.written c.args.out.now;
      failed = g.O.Sink.faults c.args.out.now;
    } in
    let taken = c.in_ok-lines.ensures.taken run base c.read_window-groups.ensures.read under i.storing i.room in
    let source = change_of g.S.Source.left g.S.Source.faults c.args.src.now c.read_window-groups.new.src in
    let errors = change_of g.E.Sink.written g.E.Sink.faults c.args.err.now c.store_groups.new.err in
    taken.1.risen

pub flush_rest-requires-clause-keeps : goal.flush_rest-requires-clause-keeps
flush_rest-requires-clause-keeps g c =
    let i = c.windows.invariant in
    let w = c.read_window-groups.ensures.window in
    let run = run_on c.args.arrival.now _ _ _ _ _ _ _ _ _ _ _ _ _ _ _ _ _ i.loading w in
    let under = reads_on c.args.arrival.now _ _ _ _ _ _ _ _ _ _ _ _ _ _ _ _ _ i.loading w in
    let base : Base = record {
      start = g.V.Vault.past c.args.stored.now.keeper.vault;
      faults = g.V.Vault.faults c.args.stored.now.keeper.vault;
      written = g.O.Sink.written c.args.out.now;
      failed = g.O.Sink.faults c.args.out.now;
    } in
    let taken = c.in_ok-lines.ensures.taken run base c.read_window-groups.ensures.read under i.storing i.room in
    let source = change_of g.S.Source.left g.S.Source.faults c.args.src.now c.read_window-groups.new.src in
    let errors = change_of g.E.Sink.written g.E.Sink.faults c.args.err.now c.store_groups.new.err in
    taken.1.keeps

pub flush_rest-requires-clause-on : goal.flush_rest-requires-clause-on
flush_rest-requires-clause-on g c =
    let i = c.windows.invariant in
    let w = c.read_window-groups.ensures.window in
    let run = run_on c.args.arrival.now _ _ _ _ _ _ _ _ _ _ _ _ _ _ _ _ _ i.loading w in
    let under = reads_on c.args.arrival.now _ _ _ _ _ _ _ _ _ _ _ _ _ _ _ _ _ i.loading w in
    let base : Base = record {
      start = g.V.Vault.past c.args.stored.now.keeper.vault;
      faults = g.V.Vault.faults c.args.stored.now.keeper.vault;
      written = g.O.Sink.written c.args.out.now;
      failed = g.O.Sink.faults c.args.out.now;
    } in
    let taken = c.in_ok-lines.ensures.taken run base c.read_window-groups.ensures.read under i.storing i.room in
    let source = change_of g.S.Source.left g.S.Source.faults c.args.src.now c.read_window-groups.new.src in
    let errors = change_of g.E.Sink.written g.E.Sink.faults c.args.err.now c.store_groups.new.err in
    taken.1.on

pub flush_rest-requires-clause-counted : goal.flush_rest-requires-clause-counted
flush_rest-requires-clause-counted g c =
    let i = c.windows.invariant in
    let w = c.read_window-groups.ensures.window in
    let run = run_on c.args.arrival.now _ _ _ _ _ _ _ _ _ _ _ _ _ _ _ _ _ i.loading w in
    let under = reads_on c.args.arrival.now _ _ _ _ _ _ _ _ _ _ _ _ _ _ _ _ _ i.loading w in
    let base : Base = record {
      start = g.V.Vault.past c.args.stored.now.keeper.vault;
      faults = g.V.Vault.faults c.args.stored.now.keeper.vault;
      written = g.O.Sink.written c.args.out.now;
      failed = g.O.Sink.faults c.args.out.now;
    } in
    let taken = c.in_ok-lines.ensures.taken run base c.read_window-groups.ensures.read under i.storing i.room in
    let source = change_of g.S.Source.left g.S.Source.faults c.args.src.now c.read_window-groups.new.src in
    let errors = change_of g.E.Sink.written g.E.Sink.faults c.args.err.now c.store_groups.new.err in
    taken.1.counted

pub returns-then-not-branch-clause-loaded : goal.returns-then-not-branch-clause-loaded
returns-then-not-branch-clause-loaded g c =
    let i = c.windows.invariant in
    let w = c.read_window-groups.ensures.window in
    let run = run_on c.args.arrival.now _ _ _ _ _ _ _ _ _ _ _ _ _ _ _ _ _ i.loading w in
    let under = reads_on c.args.arrival.now _ _ _ _ _ _ _ _ _ _ _ _ _ _ _ _ _ i.loading w in
    let base : Base = record {
      start = g.V.Vault.past c.args.stored.now.keeper.vault;
      faults = g.V.Vault.faults c.args.stored.now.keeper.vault;
      written = g.O.Sink.written c.args.out.now;
      failed = g.O.Sink.faults c.args.out.now;
    } in
    let taken = c.in_ok-lines.ensures.taken run base c.read_window-groups.ensures.read under i.storing i.room in
    let source = change_of g.S.Source.left g.S.Source.faults c.args.src.now c.read_window-groups.new.src in
    let errors = change_of g.E.Sink.written g.E.Sink.faults c.args.err.now c.store_groups.new.err in
    let all = loaded c.args.arrival.now _ _ _ _ _ _ _ _ _ _ _ _ _ _ _ _ _ i.loading w _ _ c.store_groups.new.stored.desk
    c.in_ok-lines.lines taken.0 c.read_window-groups.ensures.faults (c.in_ok-more.was ∙ ap Ok c.if-not-branch.true) in
    let rest = ends_rest g.V.Vault.is_told g.V.Vault.past g.V.Vault.faults c.args.arrival.now
    (batches_in c.args.stored.now.desk.history) source errors base c.store_groups.new.stored.keeper
    c.store_groups.new.stored.desk c.store_groups.new.stored.count g.O.Sink.written g.O.Sink.faults
    c.store_groups.new.out c.flush_rest.new.out taken.1 all c.flush_rest.new.stored.keeper
    c.flush_rest.new.stored.desk c.flush_rest.result c.flush_rest.ensures.kept c.flush_rest.ensures.stopped in
    rest.ok

pub returns-then-not-branch-clause-stopped : goal.returns-then-not-branch-clause-stopped
returns-then-not-branch-clause-stopped g c =
    let i = c.windows.invariant in
    let w = c.read_window-groups.ensures.window in
    let run = run_on c.args.arrival.now _ _ _ _ _ _ _ _ _ _ _ _ _ _ _ _ _ i.loading w in
    let under = reads_on c.args.arrival.now _ _ _ _ _ _ _ _ _ _ _ _ _ _ _ _ _ i.loading w in
    let base : Base = record {
      start = g.V.Vault.past c.args.stored.now.keeper.vault;
      faults = g.V.Vault.faults c.args.stored.now.keeper.vault;
      written = g.O.Sink.written c.args.out.now;
      failed = g.O.Sink.faults c.args.out.now;
    } in
    let taken = c.in_ok-lines.ensures.taken run base c.read_window-groups.ensures.read under i.storing i.room in
    let source = change_of g.S.Source.left g.S.Source.faults c.args.src.now c.read_window-groups.new.src in
    let errors = change_of g.E.Sink.written g.E.Sink.faults c.args.err.now c.store_groups.new.err in
    let all = loaded c.args.arrival.now _ _ _ _ _ _ _ _ _ _ _ _ _ _ _ _ _ i.loading w _ _ c.store_groups.new.stored.desk
    c.in_ok-lines.lines taken.0 c.read_window-groups.ensures.faults (c.in_ok-more.was ∙ ap Ok c.if-not-branch.true) in
    let rest = ends_rest g.V.Vault.is_told g.V.Vault.past g.V.Vault.faults c.args.arrival.now
    (batches_in c.args.stored.now.desk.history) source errors base c.store_groups.new.stored.keeper
    c.store_groups.new.stored.desk c.store_groups.new.stored.count g.O.Sink.written g.O.Sink.faults
    c.store_groups.new.out c.flush_rest.new.out taken.1 all c.flush_rest.new.stored.keeper
    c.flush_rest.new.stored.desk c.flush_rest.result c.flush_rest.ensures.kept c.flush_rest.ensures.stopped in
    rest.err

pub returns-then-not-branch-clause-safe : goal.returns-then-not-branch-clause-safe
returns-then-not-branch-clause-safe g c =
    let i = c.windows.invariant in
    let w = c.read_window-groups.ensures.window in
    let run = run_on c.args.arrival.now _ _ _ _ _ _ _ _ _ _ _ _ _ _ _ _ _ i.loading w in
    let under = reads_on c.args.arrival.now _ _ _ _ _ _ _ _ _ _ _ _ _ _ _ _ _ i.loading w in
    let base : Base = record {
      start = g.V.Vault.past c.args.stored.now.keeper.vault;
      faults = g.V.Vault.faults c.args.stored.now.keeper.vault;
      written = g.O.Sink.written c.args.out.now;
      failed = g.O.Sink.faults c.args.out.now;
    } in
    let taken = c.in_ok-lines.ensures.taken run base c.read_window-groups.ensures.read under i.storing i.room in
    let source = change_of g.S.Source.left g.S.Source.faults c.args.src.now c.read_window-groups.new.src in
    let errors = change_of g.E.Sink.written g.E.Sink.faults c.args.err.now c.store_groups.new.err in
    let all = loaded c.args.arrival.now _ _ _ _ _ _ _ _ _ _ _ _ _ _ _ _ _ i.loading w _ _ c.store_groups.new.stored.desk
    c.in_ok-lines.lines taken.0 c.read_window-groups.ensures.faults (c.in_ok-more.was ∙ ap Ok c.if-not-branch.true) in
    let rest = ends_rest g.V.Vault.is_told g.V.Vault.past g.V.Vault.faults c.args.arrival.now
    (batches_in c.args.stored.now.desk.history) source errors base c.store_groups.new.stored.keeper
    c.store_groups.new.stored.desk c.store_groups.new.stored.count g.O.Sink.written g.O.Sink.faults
    c.store_groups.new.out c.flush_rest.new.out taken.1 all c.flush_rest.new.stored.keeper
    c.flush_rest.new.stored.desk c.flush_rest.result c.flush_rest.ensures.kept c.flush_rest.ensures.stopped in
    rest.safely

pub returns-then-not-branch-clause-stays : goal.returns-then-not-branch-clause-stays
returns-then-not-branch-clause-stays g c =
    let i = c.windows.invariant in
    let w = c.read_window-groups.ensures.window in
    let run = run_on c.args.arrival.now _ _ _ _ _ _ _ _ _ _ _ _ _ _ _ _ _ i.loading w in
    let under = reads_on c.args.arrival.now _ _ _ _ _ _ _ _ _ _ _ _ _ _ _ _ _ i.loading w in
    let base : Base = record {
      start = g.V.Vault.past c.args.stored.now.keeper.vault;
      faults = g.V.Vault.faults c.args.stored.now.keeper.vault;
      written = g.O.Sink.written c.args.out.now;
      failed = g.O.Sink.faults c.args.out.now;
    } in
    let taken = c.in_ok-lines.ensures.taken run base c.read_window-groups.ensures.read under i.storing i.room in
    let source = change_of g.S.Source.left g.S.Source.faults c.args.src.now c.read_window-groups.new.src in
    let errors = change_of g.E.Sink.written g.E.Sink.faults c.args.err.now c.store_groups.new.err in
    let all = loaded c.args.arrival.now _ _ _ _ _ _ _ _ _ _ _ _ _ _ _ _ _ i.loading w _ _ c.store_groups.new.stored.desk
    c.in_ok-lines.lines taken.0 c.read_window-groups.ensures.faults (c.in_ok-more.was ∙ ap Ok c.if-not-branch.true) in
    let rest = ends_rest g.V.Vault.is_told g.V.Vault.past g.V.Vault.faults c.args.arrival.now
    (batches_in c.args.stored.now.desk.history) source errors base c.store_groups.new.stored.keeper
    c.store_groups.new.stored.desk c.store_groups.new.stored.count g.O.Sink.written g.O.Sink.faults
    c.store_groups.new.out c.flush_rest.new.out taken.1 all c.flush_rest.new.stored.keeper
    c.flush_rest.new.stored.desk c.flush_rest.result c.flush_rest.ensures.kept c.flush_rest.ensures.stopped in
    rest.risen

pub windows-preserved : goal.windows-preserved
windows-preserved g c =
    let i = c.windows.invariant in
    let w = c.read_window-groups.ensures.window in
    let run = run_on c.args.arrival.now _ _ _ _ _ _ _ _ _ _ _ _ _ _ _ _ _ i.loading w in
    let under = reads_on c.args.arrival.now _ _ _ _ _ _ _ _ _ _ _ _ _ _ _ _ _ i.loading w in
    let base : Base = record {
      start = g.V.Vault.past c.args.stored.now.keeper.vault;
      faults = g.V.Vault.faults c.args.stored.now.keeper.vault;
      written = g.O.Sink.written c.args.out.now;
      failed = g.O.Sink.faults c.args.out.now;
    } in
    let taken = c.in_ok-lines.ensures.taken run base c.read_window-groups.ensures.read under i.storing i.room in
    let source = change_of g.S.Source.left g.S.Source.faults c.args.src.now c.read_window-groups.new.src in
    let errors = change_of g.E.Sink.written g.E.Sink.faults c.args.err.now c.store_groups.new.err in
    record {
      loading = turns_on c.args.arrival.now _ _ _ _ _ _ _ _ _ _ _ _ _ _ _ _ _ i.loading w _ _
          c.store_groups.new.stored.desk c.in_ok-lines.lines
          taken.0 c.read_window-groups.ensures.faults (c.in_ok-more.was ∙ ap Ok c.if-not-branch.false);
      storing = taken.1;
      room = c.in_ok-lines.ensures.room;
      some = omega (arith, c.min-most.ensures, i.some);
      few = omega (arith, c.min-most.ensures);
    }
