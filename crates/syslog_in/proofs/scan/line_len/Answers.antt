use Rattle.memchr.specs.Find.{is_byte}
use Rattle.syslog_in.proofs.Finding.{found, not_found}
use Rattle.syslog_in.proofs.scan.line_len.Goals as goal

pub returns-in-Some-clause-value : goal.returns-in-Some-clause-value
returns-in-Some-clause-value c = found
    (is_byte 10) c.args.bytes.now c.in-Some.end c.in-Some.ensures.0 c.in-Some.ensures.1

pub returns-in-None-clause-value : goal.returns-in-None-clause-value
returns-in-None-clause-value c = not_found (is_byte 10) c.args.bytes.now c.in-None.ensures
