use Rattle.std.proofs.Common.{◌≡◌, ◌≤◌}
use Rattle.std.specs.Vec.Iter.{into_iter_items}
use Rattle.vl_pipe.specs.Load.{IsUnderWay, Run}
use Rattle.vl_pipe.specs.Window.{AreReadGroups, bodies_of}
use Rattle.vl_pipe.proofs.load.take_groups.Given as goal

abbrev pub invariant-loop-group : goal.invariant-loop-group
invariant-loop-group g l =
    (goal.iterator-loop-group g).can_next l.group-iterator
    × (goal.iterator-loop-group g).is_finite l.group-iterator
    × ((run : Run) × AreReadGroups run.arrival (into_iter_items l.group-iterator)
    × IsUnderWay run (bodies_of (into_iter_items l.group-iterator)) (g.E.Sink.written l.err) (g.E.Sink.faults l.err)
    l.desk l.lines)
    × ((run : Run) → AreReadGroups run.arrival (into_iter_items l.initial.group-iterator)
    → IsUnderWay run (bodies_of (into_iter_items l.initial.group-iterator)) (g.E.Sink.written l.initial.err)
    (g.E.Sink.faults l.initial.err) l.initial.desk l.initial.lines
    → AreReadGroups run.arrival (into_iter_items l.group-iterator)
    × IsUnderWay run (bodies_of (into_iter_items l.group-iterator)) (g.E.Sink.written l.err) (g.E.Sink.faults l.err)
    l.desk l.lines)
    × (g.E.Sink.faults l.initial.err ≤ g.E.Sink.faults l.err)
    × (l.desk.settled ≡ l.initial.desk.settled)
