use Rattle.std.proofs.Common.{refl, subst, sym}
use Rattle.vl_io.specs.Change.{change_of}
use Rattle.log_desk.specs.Seen.{caller_of, seen_of}
use Rattle.vl_session.specs.Laws.{SyslogInput}
use Rattle.vl_session.specs.Session.{Connection}
use Rattle.vl_serve.specs.Visit.{IsVisit, Visited}
use Rattle.vl_serve.proofs.visit.serve_visit.Goals as goal

pub returns-in-Http-clause-goes_on : goal.returns-in-Http-clause-goes_on
returns-in-Http-clause-goes_on g c =
    let connection : Connection = record {
      caller = caller_of c.args.pass.now;
      first = seen_of c.args.pass.now;
      last = seen_of c.serve_session.new.pass;
      source = change_of g.S.Source.left g.S.Source.faults c.args.visit.now.source c.serve_session.new.src;
      sink = change_of g.K.Sink.written g.K.Sink.faults c.args.visit.now.sink c.serve_session.new.sink;
      moments_old = g.C.Clock.moments c.args.visit.now.clock;
      moments_new = g.C.Clock.moments c.serve_session.new.clock;
      dones = c.serve_session.result.turns;
      end = c.serve_session.result.end;
    } in
    let grows = c.session_law.ensures.entries connection c.serve_session.ensures.session in (grows.later, grows.longer)

pub returns-in-Http-clause-visit : goal.returns-in-Http-clause-visit
returns-in-Http-clause-visit g c =
    let served = c.serve_session in
    let visited : Visited = record {
      caller = caller_of c.args.pass.now;
      first = seen_of c.args.pass.now;
      last = seen_of served.new.pass;
      source = change_of g.S.Source.left g.S.Source.faults c.args.visit.now.source served.new.src;
      sink = change_of g.K.Sink.written g.K.Sink.faults c.args.visit.now.sink served.new.sink;
      moments_old = g.C.Clock.moments c.args.visit.now.clock;
      moments_new = g.C.Clock.moments served.new.clock;
    } in
    subst (λ kind. IsVisit kind visited) (sym c.in-Http.is)
    (served.result.turns, served.result.end, served.ensures.session)

pub returns-in-Syslog-clause-visit : goal.returns-in-Syslog-clause-visit
returns-in-Syslog-clause-visit g c =
    let taken = c.syslog_session in
    let visited : Visited = record {
      caller = caller_of c.args.pass.now;
      first = seen_of c.args.pass.now;
      last = seen_of taken.new.pass;
      source = change_of g.S.Source.left g.S.Source.faults c.args.visit.now.source taken.new.src;
      sink = change_of g.K.Sink.written g.K.Sink.faults c.args.visit.now.sink c.args.visit.now.sink;
      moments_old = g.C.Clock.moments c.args.visit.now.clock;
      moments_new = g.C.Clock.moments taken.new.clock;
    } in
    subst (λ kind. IsVisit kind visited) (sym c.in-Syslog.is) (refl, taken.result, taken.ensures.session)

pub returns-in-Syslog-clause-goes_on : goal.returns-in-Syslog-clause-goes_on
returns-in-Syslog-clause-goes_on g c =
    let input : SyslogInput = record {
      caller = caller_of c.args.pass.now;
      first = seen_of c.args.pass.now;
      last = seen_of c.syslog_session.new.pass;
      source = change_of g.S.Source.left g.S.Source.faults c.args.visit.now.source c.syslog_session.new.src;
      moments_old = g.C.Clock.moments c.args.visit.now.clock;
      moments_new = g.C.Clock.moments c.syslog_session.new.clock;
      report = c.syslog_session.result;
    } in
    let grows = c.syslog_law.ensures.entries input c.syslog_session.ensures.session in (grows.later, grows.longer)

pub returns-in-Http-clause-mark : goal.returns-in-Http-clause-mark
returns-in-Http-clause-mark g c =
    let connection : Connection = record {
      caller = caller_of c.args.pass.now;
      first = seen_of c.args.pass.now;
      last = seen_of c.serve_session.new.pass;
      source = change_of g.S.Source.left g.S.Source.faults c.args.visit.now.source c.serve_session.new.src;
      sink = change_of g.K.Sink.written g.K.Sink.faults c.args.visit.now.sink c.serve_session.new.sink;
      moments_old = g.C.Clock.moments c.args.visit.now.clock;
      moments_new = g.C.Clock.moments c.serve_session.new.clock;
      dones = c.serve_session.result.turns;
      end = c.serve_session.result.end;
    } in
    let grows = c.session_law.ensures.entries connection c.serve_session.ensures.session in
    record { rises = grows.settled; stays = grows.stays }

pub returns-in-Syslog-clause-mark : goal.returns-in-Syslog-clause-mark
returns-in-Syslog-clause-mark g c =
    let input : SyslogInput = record {
      caller = caller_of c.args.pass.now;
      first = seen_of c.args.pass.now;
      last = seen_of c.syslog_session.new.pass;
      source = change_of g.S.Source.left g.S.Source.faults c.args.visit.now.source c.syslog_session.new.src;
      moments_old = g.C.Clock.moments c.args.visit.now.clock;
      moments_new = g.C.Clock.moments c.syslog_session.new.clock;
      report = c.syslog_session.result;
    } in
    let grows = c.syslog_law.ensures.entries input c.syslog_session.ensures.session in
    record { rises = grows.settled; stays = grows.stays }
