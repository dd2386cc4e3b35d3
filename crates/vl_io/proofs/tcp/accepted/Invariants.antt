use Rattle.std.proofs.Common.{◌≤◌}
use Rattle.vl_io.proofs.tcp.accepted.Given as goal

abbrev pub invariant-loop-connection : goal.invariant-loop-connection
invariant-loop-connection g l =
    (goal.iterator-loop-connection g).can_next l.connection-iterator
    × (goal.iterator-loop-connection g).is_finite l.connection-iterator
    × (l.initial.faults ≤ l.faults)
