use Rattle.memchr.specs.Find.{is_byte3}
use Rattle.syslog_in.proofs.Finding.{found, not_found}
use Rattle.syslog_in.proofs.data.plain_len.Goals as goal

pub returns-in-Some : goal.returns-in-Some
returns-in-Some c = found (is_byte3 34 92 93) c.args.text.now c.in-Some.end c.in-Some.ensures.0 c.in-Some.ensures.1

pub returns-in-None : goal.returns-in-None
returns-in-None c = not_found (is_byte3 34 92 93) c.args.text.now c.in-None.ensures
