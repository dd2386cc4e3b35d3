-- What is done with a visit: one session over its objects, and nothing else.
use Rattle.std.specs.Prelude.{ℕ, List, Option}
use Rattle.vl_io.specs.Change.{Change, IsUntold}
use Rattle.vl_io.specs.declared.outside.VisitKind.{VisitKind}
use Rattle.vl_io.specs.declared.outside.VisitKind.TheVariants.{Http, Syslog}
use Rattle.log_desk.specs.Seen.{Caller, Seen}
use Rattle.vl_session.specs.Laws.{IsTakenWhole}
use Rattle.vl_session.specs.Session.{IsSession}
use Rattle.vl_session.specs.declared.report.Done.{Done}
use Rattle.vl_session.specs.declared.report.End.{End}
use Rattle.vl_session.specs.declared.syslog_report.SyslogReport.{SyslogReport}

-- what a visit is served with, and what becomes of its objects
pub record Visited : Type 0 where
  pub caller : Caller
  -- what the caller had seen before, and then
  pub first : Seen
  pub last : Seen
  pub source : Change
  pub sink : Change
  pub moments_old : Option (List ℕ)
  pub moments_new : Option (List ℕ)

-- One session of HTTP.
abbrev pub IsHttpVisit : Visited → Type 0
IsHttpVisit visit =
    (dones : List Done) × (end : End) × IsSession (record {
      caller = visit.caller;
      first = visit.first;
      last = visit.last;
      source = visit.source;
      sink = visit.sink;
      moments_old = visit.moments_old;
      moments_new = visit.moments_new;
      dones = dones;
      end = end;
    })

-- One session of syslog, which writes nothing.
abbrev pub IsSyslogVisit : Visited → Type 0
IsSyslogVisit visit =
    IsUntold visit.sink × (report : SyslogReport) × IsTakenWhole (record {
      caller = visit.caller;
      first = visit.first;
      last = visit.last;
      source = visit.source;
      moments_old = visit.moments_old;
      moments_new = visit.moments_new;
      report = report;
    })

-- One session, by what the visitor speaks.
abbrev pub IsVisit : VisitKind → Visited → Type 0
IsVisit Http visit = IsHttpVisit visit
IsVisit Syslog visit = IsSyslogVisit visit
