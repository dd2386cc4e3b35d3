use Rattle.std.proofs.Common.{◌≡◌, ◌+◌, ◌≤◌, length, vec_capacity, vec_len}
use Rattle.std.specs.Vec.Iter.{into_iter_items}
use Rattle.log_desk.specs.Calls.{KeepsMark}
use Rattle.log_desk.specs.Passes.{IsPassOf}
use Rattle.log_desk.specs.Seen.{caller_of, seen_of}
use Rattle.vl_serve.specs.Doors.{GoesOn, door_change}
use Rattle.vl_serve.proofs.Ends.{HaveLeft}
use Rattle.vl_serve.proofs.serving.put_back.Given as goal

abbrev pub invariant-loop-worker : goal.invariant-loop-worker
invariant-loop-worker g l =
    (goal.iterator-loop-worker g).can_next l.worker-iterator
    × (goal.iterator-loop-worker g).is_finite l.worker-iterator
    × HaveLeft (door_change g.D.Doors.left g.D.Doors.faults) (into_iter_items l.initial.worker-iterator)
    (into_iter_items l.worker-iterator) l.doors.items l.door_faults
    × (vec_len l.doors + length (into_iter_items l.worker-iterator) ≤ vec_capacity l.doors)
    × (l.door_faults ≤ vec_len l.doors)
    × IsPassOf l.desk l.pass
    × (caller_of l.pass ≡ caller_of l.initial.pass)
    × KeepsMark l.initial.pass l.pass
    × GoesOn (seen_of l.initial.pass) (seen_of l.pass)
