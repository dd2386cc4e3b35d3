use Rattle.std.proofs.Common.{◌++◌, arith, subst, sym}
use Rattle.std.specs.Vec.Iter.{into_iter_items}
use Rattle.vl_io.specs.Change.{change_of}
use Rattle.vl_pipe.specs.Load.{IsUnderWay, errors_of}
use Rattle.vl_pipe.specs.Storing.{HasStopped}
use Rattle.vl_pipe.specs.Window.{AreReadGroups, bodies_of, joined}
use Rattle.vl_pipe.proofs.LoadLemmas.{if_err, lines_at_most, loading_more}
use Rattle.vl_pipe.proofs.StoringLemmas.{inserted, none_left, on_group, stops_flush, stops_insert}
use Rattle.vl_pipe.proofs.stored_load.store_groups.Goals as goal

pub store_group-requires-clause-read : goal.store_group-requires-clause-read
store_group-requires-clause-read g c =
    let before = c.loop-group.invariant in
    (before.2.0.arrival, (subst (AreReadGroups before.2.0.arrival) c.in-Some.ensures.steps.0 before.2.2).0)

pub store_group-requires-clause-lines : goal.store_group-requires-clause-lines
store_group-requires-clause-lines g c =
    let before = c.loop-group.invariant in
    let run = before.2.0 in
    let under = subst
    (λ groups. IsUnderWay run (bodies_of groups) (g.E.Sink.written c.loop-group.err) (g.E.Sink.faults c.loop-group.err)
    c.loop-group.stored.desk c.loop-group.lines) c.in-Some.ensures.steps.0 before.2.3 in
    lines_at_most run.ended c.in-Some.group.body.items
    (joined (bodies_of (into_iter_items c.next.new.self)) ++ run.tail) under.are.0

pub flush_if_due-requires-clause-keeps : goal.flush_if_due-requires-clause-keeps
flush_if_due-requires-clause-keeps g c =
    let before = c.loop-group.invariant in
    let run = before.2.0 in
    let read = subst (AreReadGroups run.arrival) c.in-Some.ensures.steps.0 before.2.2 in
    let errors = change_of g.E.Sink.written g.E.Sink.faults c.loop-group.err c.store_group.new.err in
    (inserted g.V.Vault.is_told g.V.Vault.past g.V.Vault.faults run before.2.1 c.loop-group.stored.keeper
    c.loop-group.stored.count (g.O.Sink.written c.loop-group.out) (g.O.Sink.faults c.loop-group.out)
    run.arrival c.in-Some.group.body.items c.loop-group.stored.desk c.store_group.new.stored.desk errors
    c.loop-group.lines before.2.4 before.3 (c.in_ok-store_group.ensures.taken run.arrival read.0)
    c.store_group.new.stored.count c.in_ok-store_group.ensures.counted c.store_group.new.stored.keeper
    c.store_group.ensures.keeper).keeps

pub returns-in_err-store_group-clause-stopped : goal.returns-in_err-store_group-clause-stopped
returns-in_err-store_group-clause-stopped g c run base reads under storing room =
    let before = c.loop-group.invariant in
    let whole = c.into_iter-group-iterator.ensures.into_iter_gives.0 in
    let now = before.4 run base (rw whole reads) (rw whole under) storing in
    let read = subst (AreReadGroups run.arrival) c.in-Some.ensures.steps.0 now.0 in
    let next = subst
    (λ groups. IsUnderWay run (bodies_of groups) (g.E.Sink.written c.loop-group.err) (g.E.Sink.faults c.loop-group.err)
    c.loop-group.stored.desk c.loop-group.lines) c.in-Some.ensures.steps.0 now.1 in
    let errors = errors_of run (g.E.Sink.written c.store_group.new.err) (g.E.Sink.faults c.store_group.new.err) in
    let stops = stops_insert g.V.Vault.is_told g.V.Vault.past g.V.Vault.faults run base c.loop-group.stored.keeper
    c.loop-group.stored.count (g.O.Sink.written c.loop-group.out) (g.O.Sink.faults c.loop-group.out)
    c.in-Some.group.body.items (bodies_of (into_iter_items c.next.new.self)) _ _ _ _ c.loop-group.stored.desk
    c.store_group.new.stored.desk c.loop-group.lines next now.2 before.3 c.in_err-store_group.field-0.0
    (c.in_err-store_group.ensures.stopped run.arrival read.0) in
    if_err c.from_residual.result _ _ c.from_residual.ensures.1
    (λ stop is. subst (HasStopped g.V.Vault.is_told g.V.Vault.past g.V.Vault.faults run.arrival run.opened run.source
    errors base c.store_group.new.stored.keeper (g.O.Sink.written c.loop-group.out) (g.O.Sink.faults c.loop-group.out))
    (sym is)
    (subst (λ keeper. HasStopped g.V.Vault.is_told g.V.Vault.past g.V.Vault.faults run.arrival run.opened run.source
    errors base keeper (g.O.Sink.written c.loop-group.out) (g.O.Sink.faults c.loop-group.out)
    c.in_err-store_group.field-0.0) (sym c.store_group.ensures.keeper) stops))

pub returns-in_err-flush_if_due-clause-stopped : goal.returns-in_err-flush_if_due-clause-stopped
returns-in_err-flush_if_due-clause-stopped g c run base reads under storing room =
    let before = c.loop-group.invariant in
    let whole = c.into_iter-group-iterator.ensures.into_iter_gives.0 in
    let now = before.4 run base (rw whole reads) (rw whole under) storing in
    let read = subst (AreReadGroups run.arrival) c.in-Some.ensures.steps.0 now.0 in
    let next = subst
    (λ groups. IsUnderWay run (bodies_of groups) (g.E.Sink.written c.loop-group.err) (g.E.Sink.faults c.loop-group.err)
    c.loop-group.stored.desk c.loop-group.lines) c.in-Some.ensures.steps.0 now.1 in
    let taken = c.in_ok-store_group.ensures.taken run.arrival read.0 in
    let errors = change_of g.E.Sink.written g.E.Sink.faults c.loop-group.err c.store_group.new.err in
    let stored = inserted g.V.Vault.is_told g.V.Vault.past g.V.Vault.faults run base c.loop-group.stored.keeper
    c.loop-group.stored.count (g.O.Sink.written c.loop-group.out) (g.O.Sink.faults c.loop-group.out)
    run.arrival c.in-Some.group.body.items c.loop-group.stored.desk c.store_group.new.stored.desk errors
    c.loop-group.lines now.2 before.3 taken c.store_group.new.stored.count c.in_ok-store_group.ensures.counted
    c.store_group.new.stored.keeper c.store_group.ensures.keeper in
    let more = loading_more run c.in-Some.group.body.items (bodies_of (into_iter_items c.next.new.self)) _ _ _ _
    c.loop-group.stored.desk c.store_group.new.stored.desk c.loop-group.lines next
    c.in_ok-store_group.ensures.faults taken in
    if_err c.from_residual-in_err-flush_if_due.result _ _ c.from_residual-in_err-flush_if_due.ensures.1
    (λ stop is. subst (HasStopped g.V.Vault.is_told g.V.Vault.past g.V.Vault.faults run.arrival run.opened run.source
    (errors_of run (g.E.Sink.written c.store_group.new.err) (g.E.Sink.faults c.store_group.new.err)) base
    c.flush_if_due.new.stored.keeper (g.O.Sink.written c.flush_if_due.new.out)
    (g.O.Sink.faults c.flush_if_due.new.out)) (sym is)
    (stops_flush g.V.Vault.is_told g.V.Vault.past g.V.Vault.faults run base c.store_group.new.stored.keeper
    c.store_group.new.stored.count (g.O.Sink.written c.loop-group.out) (g.O.Sink.faults c.loop-group.out)
    (bodies_of (into_iter_items c.next.new.self)) _ _ c.store_group.new.stored.desk _ more stored
    c.flush_if_due.new.stored.keeper _ _ c.in_err-flush_if_due.field-0.0 c.in_err-flush_if_due.ensures.stopped))

pub loop-group-preserved : goal.loop-group-preserved
loop-group-preserved g c =
    let before = c.loop-group.invariant in
    let given = c.in-Some.ensures.steps.0 in
    let stays = c.in_ok-store_group.ensures.faults in
    let run0 = before.2.0 in
    let read0 = subst (AreReadGroups run0.arrival) given before.2.2 in
    let first = on_group g.V.Vault.is_told g.V.Vault.past g.V.Vault.faults run0 before.2.1 g.O.Sink.written
    g.O.Sink.faults c.in-Some.group.body.items (bodies_of (into_iter_items c.next.new.self)) _ _ _ _ c.loop-group.lines
    c.loop-group.stored.desk c.store_group.new.stored.desk c.flush_if_due.new.stored.desk c.loop-group.stored.keeper
    c.store_group.new.stored.keeper c.flush_if_due.new.stored.keeper c.loop-group.stored.count
    c.store_group.new.stored.count c.flush_if_due.new.stored.count c.loop-group.out c.flush_if_due.new.out
    (subst
    (λ groups. IsUnderWay run0 (bodies_of groups) (g.E.Sink.written c.loop-group.err)
    (g.E.Sink.faults c.loop-group.err) c.loop-group.stored.desk c.loop-group.lines) given before.2.3)
    before.2.4 before.3 stays (c.in_ok-store_group.ensures.taken run0.arrival read0.0)
    c.in_ok-store_group.ensures.counted c.store_group.ensures.keeper c.in_ok-flush_if_due.ensures.kept
    c.flush_if_due.ensures.count in (
      tt,
      tt,
      (run0, before.2.1, read0.1, first.0, first.1),
      first.2,
      λ run base reads under storing.
          let now = before.4 run base reads under storing in
          let read = subst (AreReadGroups run.arrival) given now.0 in
          let next = on_group g.V.Vault.is_told g.V.Vault.past g.V.Vault.faults run base g.O.Sink.written
          g.O.Sink.faults c.in-Some.group.body.items (bodies_of (into_iter_items c.next.new.self)) _ _ _ _
          c.loop-group.lines c.loop-group.stored.desk c.store_group.new.stored.desk c.flush_if_due.new.stored.desk
          c.loop-group.stored.keeper c.store_group.new.stored.keeper c.flush_if_due.new.stored.keeper
          c.loop-group.stored.count c.store_group.new.stored.count c.flush_if_due.new.stored.count c.loop-group.out
          c.flush_if_due.new.out
          (subst
          (λ groups. IsUnderWay run (bodies_of groups) (g.E.Sink.written c.loop-group.err)
          (g.E.Sink.faults c.loop-group.err) c.loop-group.stored.desk c.loop-group.lines) given now.1)
          now.2 before.3 stays (c.in_ok-store_group.ensures.taken run.arrival read.0)
          c.in_ok-store_group.ensures.counted c.store_group.ensures.keeper c.in_ok-flush_if_due.ensures.kept
          c.flush_if_due.ensures.count in
          (read.1, next.0, next.1),
      omega (arith, before.5, stays),
    )

pub returns-clause-taken : goal.returns-clause-taken
returns-clause-taken g c run base reads under storing room =
    let whole = c.into_iter-group-iterator.ensures.into_iter_gives.0 in
    let now = c.loop-group.invariant.4 run base (rw whole reads) (rw whole under) storing in (
      subst
          (λ groups. IsUnderWay run (bodies_of groups) (g.E.Sink.written c.loop-group.err)
          (g.E.Sink.faults c.loop-group.err) c.loop-group.stored.desk c.loop-group.lines)
          (none_left (into_iter_items c.loop-group.group-iterator)
          (omega (arith, c.in-None.ensures.steps.0, c.loop-group.group-iterator.rest.ok))) now.1,
      now.2,
    )
