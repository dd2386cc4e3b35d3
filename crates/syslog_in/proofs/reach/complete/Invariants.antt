use Rattle.std.proofs.Common.{◌≡◌, ◌-◌, ◌≤◌, ◌++◌, length, take}
use Rattle.syslog_in.proofs.reach.complete.Given as goal

abbrev pub invariant-pieces : goal.invariant-pieces
invariant-pieces l =
    (l.used ≤ length l.piece) × (l.kept.items ≡ l.fn.kept.items ++ take l.used l.piece)

abbrev pub decreases-pieces : goal.decreases-pieces
decreases-pieces l = length l.piece - l.used
