use Rattle.std.proofs.Common.{◌+◌, ◌<◌, ◌≤◌}
use Rattle.std.specs.Vec.Iter.{into_iter_items}
use Rattle.vl_pipe.specs.Flushing.{flush_size}
use Rattle.vl_pipe.specs.Load.{IsUnderWay, Run}
use Rattle.vl_pipe.specs.Storing.{Base, IsStoring}
use Rattle.vl_pipe.specs.Window.{AreReadGroups, bodies_of}
use Rattle.vl_pipe.proofs.stored_load.store_groups.Given as goal

abbrev pub invariant-loop-group : goal.invariant-loop-group
invariant-loop-group g l =
    (goal.iterator-loop-group g).can_next l.group-iterator
    × (goal.iterator-loop-group g).is_finite l.group-iterator
    × ((run : Run) × (base : Base) × AreReadGroups run.arrival (into_iter_items l.group-iterator)
    × IsUnderWay run (bodies_of (into_iter_items l.group-iterator)) (g.E.Sink.written l.err) (g.E.Sink.faults l.err)
    l.stored.desk l.lines
    × IsStoring g.V.Vault.is_told g.V.Vault.past g.V.Vault.faults run.opened base l.stored.keeper l.stored.desk
    l.stored.count (g.O.Sink.written l.out) (g.O.Sink.faults l.out))
    × (l.stored.count < l.stored.keeper.front + flush_size)
    × ((run : Run) (base : Base) → AreReadGroups run.arrival (into_iter_items l.initial.group-iterator)
    → IsUnderWay run (bodies_of (into_iter_items l.initial.group-iterator)) (g.E.Sink.written l.initial.err)
    (g.E.Sink.faults l.initial.err) l.initial.stored.desk l.initial.lines
    → IsStoring g.V.Vault.is_told g.V.Vault.past g.V.Vault.faults run.opened base l.initial.stored.keeper
    l.initial.stored.desk l.initial.stored.count (g.O.Sink.written l.initial.out) (g.O.Sink.faults l.initial.out)
    → AreReadGroups run.arrival (into_iter_items l.group-iterator)
    × IsUnderWay run (bodies_of (into_iter_items l.group-iterator)) (g.E.Sink.written l.err) (g.E.Sink.faults l.err)
    l.stored.desk l.lines
    × IsStoring g.V.Vault.is_told g.V.Vault.past g.V.Vault.faults run.opened base l.stored.keeper l.stored.desk
    l.stored.count (g.O.Sink.written l.out) (g.O.Sink.faults l.out))
    × (g.E.Sink.faults l.initial.err ≤ g.E.Sink.faults l.err)
