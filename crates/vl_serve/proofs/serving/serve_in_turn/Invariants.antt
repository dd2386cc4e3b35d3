use Rattle.std.proofs.Common.{◌≡◌, ◌≤◌, drop, length, take}
use Rattle.log_desk.specs.Calls.{KeepsMark}
use Rattle.log_desk.specs.Passes.{IsPassOf}
use Rattle.log_desk.specs.Seen.{caller_of, seen_of}
use Rattle.vl_serve.specs.Doors.{AreServed, GoesOn, door_changes}
use Rattle.vl_serve.proofs.serving.serve_in_turn.Given as goal

abbrev pub invariant-loop-door : goal.invariant-loop-door
invariant-loop-door g l =
    AreServed (door_changes g.D.Doors.left g.D.Doors.faults (take l.door-index l.initial.door-items)
    (take l.door-index l.door-items)) l.door_faults
    × (drop l.door-index l.door-items ≡ drop l.door-index l.initial.door-items)
    × (length l.door-items ≡ length l.initial.door-items)
    × (l.door_faults ≤ l.door-index)
    × IsPassOf l.desk l.pass
    × (caller_of l.pass ≡ caller_of l.initial.pass)
    × KeepsMark l.initial.pass l.pass
    × GoesOn (seen_of l.initial.pass) (seen_of l.pass)
