use Rattle.std.proofs.Common.{◌++◌, ◌∙◌, arith, subst, sym}
use Rattle.std.specs.Vec.Iter.{into_iter_items}
use Rattle.vl_pipe.specs.Groups.{batches_of}
use Rattle.vl_pipe.specs.Load.{IsUnderWay, StopsLoad}
use Rattle.vl_pipe.specs.Window.{AreReadGroups, bodies_of, joined}
use Rattle.vl_pipe.proofs.HeldLemmas.{held_all, held_numbered}
use Rattle.vl_pipe.proofs.LoadLemmas.{if_err, lines_at_most, loading_more, stops_at_group, stops_unsettled}
use Rattle.vl_pipe.proofs.load.take_groups.Goals as goal

pub take_group-requires-clause-read : goal.take_group-requires-clause-read
take_group-requires-clause-read g c =
    let before = c.loop-group.invariant in
    (before.2.0.arrival, (subst (AreReadGroups before.2.0.arrival) c.in-Some.ensures.steps.0 before.2.1).0)

pub take_group-requires-clause-lines : goal.take_group-requires-clause-lines
take_group-requires-clause-lines g c =
    let before = c.loop-group.invariant in
    let run = before.2.0 in
    let under = subst
    (λ groups. IsUnderWay run (bodies_of groups) (g.E.Sink.written c.loop-group.err) (g.E.Sink.faults c.loop-group.err)
    c.loop-group.desk c.loop-group.lines) c.in-Some.ensures.steps.0 before.2.2 in
    lines_at_most run.ended c.in-Some.group.body.items
    (joined (bodies_of (into_iter_items c.next.new.self)) ++ run.tail) under.are.0

pub take_group-requires-clause-numbered : goal.take_group-requires-clause-numbered
take_group-requires-clause-numbered g c =
    let before = c.loop-group.invariant in
    held_numbered before.2.0.opened c.loop-group.desk (batches_of before.2.2.groups) before.2.2.held
    (omega (arith, c.requires.numbers, before.5))

pub returns-in_err-take_group-clause-stopped : goal.returns-in_err-take_group-clause-stopped
returns-in_err-take_group-clause-stopped g c run reads under settled =
    let before = c.loop-group.invariant in
    let still = before.5 ∙ settled in
    let whole = c.into_iter-group-iterator.ensures.into_iter_gives.0 in
    let now = before.3 run (rw whole reads) (rw whole under) in
    let read = subst (AreReadGroups run.arrival) c.in-Some.ensures.steps.0 now.0 in
    let next = subst
    (λ groups. IsUnderWay run (bodies_of groups) (g.E.Sink.written c.loop-group.err) (g.E.Sink.faults c.loop-group.err)
    c.loop-group.desk c.loop-group.lines) c.in-Some.ensures.steps.0 now.1 in
    if_err c.from_residual.result _ _ c.from_residual.ensures.1
    (λ interrupt is. subst (StopsLoad _ _ _) (sym is)
    (stops_unsettled run.arrival run.opened run.source _ c.loop-group.desk c.take_group.new.desk _
    (stops_at_group run c.in-Some.group.body.items (bodies_of (into_iter_items c.next.new.self)) _ _ _ _
    c.loop-group.desk c.take_group.new.desk c.loop-group.lines next
    (held_all run.opened c.loop-group.desk (batches_of next.groups) next.held still)
    c.in_err-take_group.field-0.0 (c.in_err-take_group.ensures.stopped run.arrival read.0)) still))

pub loop-group-preserved : goal.loop-group-preserved
loop-group-preserved g c =
    let before = c.loop-group.invariant in
    let given = c.in-Some.ensures.steps.0 in
    let stays = c.in_ok-take_group.ensures.faults in (
      tt,
      tt,
      (
        before.2.0,
        (subst (AreReadGroups before.2.0.arrival) given before.2.1).1,
        loading_more before.2.0 c.in-Some.group.body.items (bodies_of (into_iter_items c.next.new.self)) _ _ _ _
            c.loop-group.desk c.take_group.new.desk c.loop-group.lines
            (subst
            (λ groups. IsUnderWay before.2.0 (bodies_of groups) (g.E.Sink.written c.loop-group.err)
            (g.E.Sink.faults c.loop-group.err) c.loop-group.desk c.loop-group.lines) given before.2.2) stays
            (c.in_ok-take_group.ensures.taken before.2.0.arrival
            (subst (AreReadGroups before.2.0.arrival) given before.2.1).0),
      ),
      λ run reads under.
          let now = before.3 run reads under in
          let read = subst (AreReadGroups run.arrival) given now.0 in (
            read.1,
            loading_more run c.in-Some.group.body.items (bodies_of (into_iter_items c.next.new.self)) _ _ _ _
                c.loop-group.desk c.take_group.new.desk c.loop-group.lines
                (subst
                (λ groups. IsUnderWay run (bodies_of groups) (g.E.Sink.written c.loop-group.err)
                (g.E.Sink.faults c.loop-group.err) c.loop-group.desk c.loop-group.lines) given now.1) stays
                (c.in_ok-take_group.ensures.taken run.arrival read.0),
          ),
      omega (arith, before.4, stays),
      (c.in_ok-take_group.ensures.taken before.2.0.arrival
          (subst (AreReadGroups before.2.0.arrival) given before.2.1).0).1.adds.1 ∙ before.5,
    )
