use Rattle.std.proofs.Common.{◌≡◌, ◌-◌, ◌≤◌, None, vec_len}
use Rattle.vl_session.proofs.Going.{Going, change}
use Rattle.vl_session.proofs.session.serve_requests.Given as goal

abbrev pub invariant-turns : goal.invariant-turns
invariant-turns g l = record {
  going : Going (g.L.Log.caller l.initial.log) (g.L.Log.seen l.initial.log) (g.L.Log.seen l.log)
      (change (g.S.Source.left l.initial.src) (g.S.Source.left l.src) (g.S.Source.faults l.initial.src)
      (g.S.Source.faults l.src))
      (change (g.K.Sink.written l.initial.sink) (g.K.Sink.written l.sink) (g.K.Sink.faults l.initial.sink)
      (g.K.Sink.faults l.sink))
      (g.C.Clock.moments l.initial.clock) (g.C.Clock.moments l.clock) l.turns.items l.reader;
  may_ask : g.L.Log.may_ask l.log;
  same : g.L.Log.caller l.log ≡ g.L.Log.caller l.initial.log;
  lent : g.L.Log.name l.log ≡ g.L.Log.name l.initial.log;
  faultless : l.reader.fault ≡ None;
  few : vec_len l.turns ≤ 1000;
  src_stays : g.S.Source.faults l.initial.src ≤ g.S.Source.faults l.src;
  sink_stays : g.K.Sink.faults l.initial.sink ≤ g.K.Sink.faults l.sink;
}

abbrev pub decreases-turns : goal.decreases-turns
decreases-turns g l = 1000 - vec_len l.turns
