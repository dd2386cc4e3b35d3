use Rattle.vl_session.specs.SyslogSession.{batches_of}
use Rattle.vl_session.proofs.GrowLemmas.{stream_grows}
use Rattle.vl_session.proofs.SyslogLists.{reads_joined}
use Rattle.vl_session.proofs.law.syslog_law.Goals as goal

pub returns-clause-entries : goal.returns-clause-entries
returns-clause-entries _ s session =
    stream_grows s.caller s.first session.mid s.last (batches_of session.reads) s.report.end session.taken.taken
    session.has

pub returns-clause-rows : goal.returns-clause-rows
returns-clause-rows _ s session = reads_joined session.reads session.taken.each
