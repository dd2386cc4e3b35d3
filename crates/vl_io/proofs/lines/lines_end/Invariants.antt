use Rattle.std.proofs.Common.{◌<◌}
use Rattle.vl_io.proofs.Feeds.{Counts}
use Rattle.vl_io.proofs.lines.lines_end.Given as goal

abbrev pub invariant-loop-missing : goal.invariant-loop-missing
invariant-loop-missing l = (0 < l.lines) × Counts l.bytes l.lines l.end l.missing

abbrev pub decreases-loop-missing : goal.decreases-loop-missing
decreases-loop-missing l = l.missing
