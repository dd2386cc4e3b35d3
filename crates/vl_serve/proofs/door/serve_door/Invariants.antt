use Rattle.std.proofs.Common.{◌≡◌, ◌≤◌}
use Rattle.log_desk.specs.Calls.{KeepsMark}
use Rattle.log_desk.specs.Passes.{IsPassOf}
use Rattle.log_desk.specs.Seen.{caller_of, seen_of}
use Rattle.vl_serve.specs.Doors.{GoesOn}
use Rattle.vl_serve.proofs.door.serve_door.Given as goal

abbrev pub invariant-visits : goal.invariant-visits
invariant-visits g l =
    (goal.iterator-visits g).can_next l.iterator'
    × (goal.iterator-visits g).is_finite l.iterator'
    × IsPassOf l.desk l.pass
    × (caller_of l.pass ≡ caller_of l.initial.pass)
    × KeepsMark l.initial.pass l.pass
    × GoesOn (seen_of l.initial.pass) (seen_of l.pass)
    × (g.D.Doors.faults l.initial.door ≤ g.D.Doors.faults l.door)
