use Rattle.std.proofs.Common.{◌≡◌, ◌<◌, ◌≤◌, ◌∷◌, [], length, refl, ap, ◌∙◌, arith, length-append}
use Rattle.vl_session.proofs.Going.{ends_limit, ends_memory, ends_reading, ends_turn, going_first, going_more}
use Rattle.vl_session.proofs.Going.{going_moved}
use Rattle.vl_session.proofs.ReportLemmas.{reported}
use Rattle.vl_session.proofs.TurnLemmas.{serves_as}
use Rattle.vl_io.specs.Change.{change_of}
use Rattle.vl_session.specs.Session.{IsSession, connection}
use Rattle.vl_session.proofs.session.serve_requests.Goals as goal

pub turns-init : goal.turns-init
turns-init g c = record {
  going = going_first _ _ _ _ _ _ _ _ _ c.new-turns.ensures.items c.new-reader.ensures.holds;
  may_ask = c.requires;
  same = refl;
  lent = refl;
  faultless = c.new-reader.ensures.fresh;
  few = omega (arith, c.new-turns.ensures.len);
  src_stays = omega arith;
  sink_stays = omega arith;
}

pub returns-in-Err-clause-session : goal.returns-in-Err-clause-session
returns-in-Err-clause-session g c =
    let before = c.turns.invariant in
    let few : length c.reserve.new.self.items < 1000 =
    omega (arith, c.turns-test.true, c.len.ensures, c.turns.turns.ok.0, ap length c.in-Err.ensures.items) in
    reported (λ turns end. IsSession (connection (g.L.Log.caller c.args.log.now) (g.L.Log.seen c.args.log.now)
    (g.L.Log.seen c.turns.log) (change_of g.S.Source.left g.S.Source.faults c.args.src.now c.turns.src)
    (change_of g.K.Sink.written g.K.Sink.faults c.args.sink.now c.turns.sink) (g.C.Clock.moments c.args.clock.now)
    (g.C.Clock.moments c.turns.clock) turns end)) c.report.result c.report.ensures.turns
    c.report.ensures.end
    (ends_memory _ _ _ _ _ _ _ _ _ few
    (going_moved _ _ _ _ _ _ _ _ _ _ _ _ _ _ _ c.in-Err.ensures.items refl before.going))

pub returns-in-Err-next_request-clause-session : goal.returns-in-Err-next_request-clause-session
returns-in-Err-next_request-clause-session g c =
    let before = c.turns.invariant in
    let few : length c.reserve.new.self.items < 1000 =
    omega (arith, c.turns-test.true, c.len.ensures, c.turns.turns.ok.0, ap length c.in-Ok.ensures.items) in
    reported (λ turns end. IsSession (connection (g.L.Log.caller c.args.log.now) (g.L.Log.seen c.args.log.now)
    (g.L.Log.seen c.turns.log) (change_of g.S.Source.left g.S.Source.faults c.args.src.now c.next_request.new.src)
    (change_of g.K.Sink.written g.K.Sink.faults c.args.sink.now c.next_request.new.sink) (g.C.Clock.moments c.args.clock.now)
    (g.C.Clock.moments c.turns.clock) turns end)) c.report-in-Err-next_request.result c.report-in-Err-next_request.ensures.turns
    c.report-in-Err-next_request.ensures.end
    (ends_reading _ _ _ _ _ _ _ _ _ _ _ _ _ _ _ _ _ _ _ _ before.src_stays before.sink_stays few
    (going_moved _ _ _ _ _ _ _ _ _ _ _ _ _ _ _ c.in-Ok.ensures.items refl before.going)
    c.in-Err-next_request.ensures.ended)

pub returns-in-Err-take_turn-clause-session : goal.returns-in-Err-take_turn-clause-session
returns-in-Err-take_turn-clause-session g c =
    let before = c.turns.invariant in
    let found = c.in-Ok-next_request.ensures in
    let t = c.in-Err-take_turn.ensures.turn in
    let stays : g.K.Sink.faults c.args.sink.now ≤ g.K.Sink.faults c.next_request.new.sink =
    omega (arith, before.sink_stays, found.sink_faults) in
    let few : length c.reserve.new.self.items < 1000 =
    omega (arith, c.turns-test.true, c.len.ensures, c.turns.turns.ok.0, ap length c.in-Ok.ensures.items) in
    reported (λ turns end. IsSession (connection (g.L.Log.caller c.args.log.now) (g.L.Log.seen c.args.log.now)
    (g.L.Log.seen c.take_turn.new.log) (change_of g.S.Source.left g.S.Source.faults c.args.src.now c.next_request.new.src)
    (change_of g.K.Sink.written g.K.Sink.faults c.args.sink.now c.take_turn.new.sink) (g.C.Clock.moments c.args.clock.now)
    (g.C.Clock.moments c.take_turn.new.clock) turns end)) c.report-in-Err-take_turn.result c.report-in-Err-take_turn.ensures.turns
    c.report-in-Err-take_turn.ensures.end
    (ends_turn _ _ _ _ _ _ _ _ _ _ _ _ _ _ _ _ _ _ _ _ _ _ _ t.0 _ _ stays few
    (going_moved _ _ _ _ _ _ _ _ _ _ _ _ _ _ _ c.in-Ok.ensures.items found.silent before.going) found.found
    (serves_as _ _ _ _ _ _ _ _ before.same t.1) t.2 t.3)

pub turns-preserved : goal.turns-preserved
turns-preserved g c =
    let before = c.turns.invariant in
    let found = c.in-Ok-next_request.ensures in
    let t = c.in-Ok-take_turn.ensures.turn in
    record {
      going = going_more _ _ _ _ _ _ _ _ _ _ _ _ _ _ _ _ _ (g.K.Sink.faults c.next_request.new.sink) _ _ _ _ _ t.0 _
          (going_moved _ _ _ _ _ _ _ _ _ _ _ _ _ _ _ c.in-Ok.ensures.items found.silent before.going) found.found
          (serves_as _ _ _ _ _ _ _ _ before.same t.1) t.2 t.3.0 t.3.1;
      may_ask = c.in-Ok-take_turn.ensures.may_ask;
      same = c.in-Ok-take_turn.ensures.same ∙ before.same;
      lent = c.in-Ok-take_turn.ensures.lent ∙ before.lent;
      faultless = found.found.faultless;
      few = omega (
        arith,
        c.turns-test.true,
        c.len.ensures,
        c.turns.turns.ok.0,
        ap length c.in-Ok.ensures.items,
        c.take_turn.new.turns.ok.0,
        ap length t.1.noted,
        length-append c.reserve.new.self.items (t.1.done ∷ []),
      );
      src_stays = omega (arith, before.src_stays, found.src_faults);
      sink_stays = omega (arith, before.sink_stays, found.sink_faults, c.in-Ok-take_turn.ensures.faults);
    }

pub returns-clause-session : goal.returns-clause-session
returns-clause-session g c =
    let before = c.turns.invariant in
    let full : length c.turns.turns.items ≡ 1000 =
    omega (arith, c.turns-test.false, c.len.ensures, c.turns.turns.ok.0, before.few) in
    reported (λ turns end. IsSession (connection (g.L.Log.caller c.args.log.now) (g.L.Log.seen c.args.log.now)
    (g.L.Log.seen c.turns.log) (change_of g.S.Source.left g.S.Source.faults c.args.src.now c.turns.src)
    (change_of g.K.Sink.written g.K.Sink.faults c.args.sink.now c.turns.sink) (g.C.Clock.moments c.args.clock.now)
    (g.C.Clock.moments c.turns.clock) turns end)) c.report-2.result c.report-2.ensures.turns
    c.report-2.ensures.end
    (ends_limit _ _ _ _ _ _ _ _ _ full before.going)
