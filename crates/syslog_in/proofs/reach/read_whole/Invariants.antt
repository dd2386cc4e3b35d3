use Rattle.std.proofs.Common.{◌≡◌, List, ℕ, ◌++◌, length}
use Rattle.syslog_in.specs.Framing.{BeginsWithFrames}
use Rattle.syslog_in.proofs.reach.read_whole.Given as goal

abbrev pub invariant-frames : goal.invariant-frames
invariant-frames l =
    (messages : List (List ℕ)) × BeginsWithFrames l.bytes messages l.rest × (l.out ≡ l.fn.out ++ messages)

abbrev pub decreases-frames : goal.decreases-frames
decreases-frames l = length l.rest
