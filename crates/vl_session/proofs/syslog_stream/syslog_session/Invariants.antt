use Rattle.std.proofs.Common.{◌≡◌, ◌-◌, ◌<◌, ◌≤◌, length}
use Rattle.log_desk.specs.Passes.{IsPassOf}
use Rattle.log_desk.specs.Seen.{caller_of, seen_of}
use Rattle.vl_session.proofs.SyslogStory.{Going, change}
use Rattle.vl_session.proofs.syslog_stream.syslog_session.Given as goal

abbrev pub invariant-reads : goal.invariant-reads
invariant-reads g l = record {
  going : Going (caller_of l.initial.pass) (seen_of l.initial.pass) (seen_of l.pass)
      (change (g.S.Source.left l.initial.src) (g.S.Source.left l.src) (g.S.Source.faults l.initial.src)
      (g.S.Source.faults l.src)) (g.C.Clock.moments l.initial.clock) (g.C.Clock.moments l.clock) l.counts
      l.inflow.framer l.inflow.taken;
  pass : IsPassOf l.desk l.pass;
  caller : caller_of l.pass ≡ caller_of l.initial.pass;
  within : l.inflow.taken < 268_435_456;
  room : length l.piece ≡ 65_536;
  stays : g.S.Source.faults l.initial.src ≤ g.S.Source.faults l.src;
}

abbrev pub decreases-reads : goal.decreases-reads
decreases-reads g l = 268_435_456 - l.inflow.taken
