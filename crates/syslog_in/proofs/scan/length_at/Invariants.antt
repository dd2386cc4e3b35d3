use Rattle.syslog_in.proofs.Lengths.{AreRead}
use Rattle.syslog_in.proofs.scan.length_at.Given as goal

abbrev pub invariant-loop-digits : goal.invariant-loop-digits
invariant-loop-digits l = AreRead l.bytes l.digits l.value
