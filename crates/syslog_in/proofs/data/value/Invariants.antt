use Rattle.std.proofs.Common.{length}
use Rattle.syslog_in.proofs.Values.{ReadSoFar}
use Rattle.syslog_in.proofs.data.value.Given as goal

abbrev pub invariant-runs : goal.invariant-runs
invariant-runs l = ReadSoFar l.text l.rest l.fn.out.items l.out.items

abbrev pub decreases-runs : goal.decreases-runs
decreases-runs l = length l.rest
