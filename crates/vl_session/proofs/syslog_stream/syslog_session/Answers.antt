use Rattle.std.proofs.Common.{◌∙◌, arith, refl, subst, sym, unsigned_abs, FitsSigned, w64}
use Rattle.std.proofs.lemmas.Int.{fits_signed_from_abs, to_z-of_z}
use Rattle.log_desk.specs.Seen.{caller_of, seen_of}
use Rattle.vl_session.specs.SyslogSession.{IsSyslogSession, bytes_read}
use Rattle.vl_session.specs.SyslogTaking.{TakesSome, TakesUp}
use Rattle.vl_session.proofs.SyslogStory.{ends_at_once, ends_behind, few_come, going_first, going_more, stops_in}
use Rattle.vl_session.proofs.syslog_stream.syslog_session.Goals as goal

pub returns-in-Err-clause-session : goal.returns-in-Err-clause-session
returns-in-Err-clause-session g c =
    subst (IsSyslogSession _ _ _ _ _ _) (sym c.report.ensures)
    (ends_at_once _ _ _ _ _ _ _ _ _ _ _ _
    (going_first (caller_of c.args.pass.now) _ _ _ _ _ _ _ refl refl c.new-inflow.ensures.fresh
    c.new-inflow.ensures.none) (omega (arith, c.new-inflow.ensures.none)))

pub reads-init : goal.reads-init
reads-init g c = record {
  going = going_first _ _ _ _ _ _ _ _ refl refl c.new-inflow.ensures.fresh c.new-inflow.ensures.none;
  pass = c.requires;
  caller = refl;
  within = omega (arith, c.new-inflow.ensures.none);
  room = omega (arith, c.as_mut_slice-piece.ensures.len, c.in-Ok.ensures);
  stays = omega arith;
}

pub take_in-requires-clause-room : goal.take_in-requires-clause-room
take_in-requires-clause-room g c =
    let i = c.reads.invariant in
    let story = i.going in
    few_come _ _ _ _ _ _ _ _ _ c.advance-ended.new.self.framer _ c.advance-ended.new.self.taken _
    c.advance-ended.result story i.within
    (c.advance-ended.ensures.comes (bytes_read story.reads) story.holds story.counted)

pub returns-in-Err-take_in-clause-session : goal.returns-in-Err-take_in-clause-session
returns-in-Err-take_in-clause-session g c =
    let i = c.reads.invariant in
    let story = i.going in
    let moment = c.arrival_moment-now in
    let fits : FitsSigned w64 moment.result = fits_signed_from_abs w64 moment.result moment.ensures.in_range.0 in
    let now = unsigned_abs moment.result in
    let s = simp to_z-of_z at c.in-Err-take_in.ensures.some in
    let some = subst
    (λ caller. TakesSome caller now c.advance-ended.new.self.messages (seen_of c.reads.pass)
    (seen_of c.take_in.new.pass) c.reads.counts c.take_in.new.counts s.0 s.1 c.in-Err-take_in.end) i.caller s.2 in
    subst (IsSyslogSession _ _ _ _ _ _) (sym c.report-in-Err-take_in.ensures)
    (stops_in _ _ _ some.mid _ _ (g.S.Source.left c.advance-ended.new.src) _ _ (g.C.Clock.moments moment.new.clock)
    _ _ (g.S.Source.faults c.advance-ended.new.src) _ _ _ _ _ now s.0 s.1 story moment.ensures.told some.takes
    c.advance-ended.new.self.framer c.advance-ended.new.self.taken c.advance-ended.result c.in-Err-take_in.end
    (seen_of c.take_in.new.pass) i.within
    (c.advance-ended.ensures.comes (bytes_read story.reads) story.holds story.counted) some.has some.stops some.fewer)

pub returns-in-Some-clause-session : goal.returns-in-Some-clause-session
returns-in-Some-clause-session g c =
    let i = c.reads.invariant in
    let story = i.going in
    let moment = c.arrival_moment-now in
    let fits : FitsSigned w64 moment.result = fits_signed_from_abs w64 moment.result moment.ensures.in_range.0 in
    let now = unsigned_abs moment.result in
    let s = simp to_z-of_z at c.in-Ok-take_in.ensures.all in
    let takes = subst
    (λ caller. TakesUp caller now c.advance-ended.new.self.messages (seen_of c.reads.pass)
    (seen_of c.take_in.new.pass) c.reads.counts c.take_in.new.counts s.0 s.1) i.caller s.2 in
    subst (IsSyslogSession _ _ _ _ _ _) (sym c.report-in-Some.ensures)
    (ends_behind _ _ _ _ _ _ (g.S.Source.left c.advance-ended.new.src) _ _
    (g.C.Clock.moments moment.new.clock) _ _ (g.S.Source.faults c.advance-ended.new.src) _ _ _ _ _ now s.0 s.1
    story moment.ensures.told takes c.advance-ended.new.self.framer c.advance-ended.new.self.taken c.in-Some.end
    i.stays i.within (c.in-Some.ensures.comes (bytes_read story.reads) story.holds story.counted) s.3)

pub reads-preserved : goal.reads-preserved
reads-preserved g c =
    let i = c.reads.invariant in
    let story = i.going in
    let moment = c.arrival_moment-now in
    let fits : FitsSigned w64 moment.result = fits_signed_from_abs w64 moment.result moment.ensures.in_range.0 in
    let now = unsigned_abs moment.result in
    let s = simp to_z-of_z at c.in-Ok-take_in.ensures.all in
    let takes = subst
    (λ caller. TakesUp caller now c.advance-ended.new.self.messages (seen_of c.reads.pass)
    (seen_of c.take_in.new.pass) c.reads.counts c.take_in.new.counts s.0 s.1) i.caller s.2 in
    let comes = c.in-None.ensures.comes (bytes_read story.reads) story.holds story.counted in
    record {
      going = going_more _ _ _ _ _ _ _ _ _ (g.C.Clock.moments moment.new.clock) _ _ _ _ _ _ _ _ _ _ now s.0 s.1
          story comes moment.ensures.told takes s.3;
      pass = c.in-Ok-take_in.ensures.pass;
      caller = c.in-Ok-take_in.ensures.caller ∙ i.caller;
      within = comes.4;
      room = omega (arith, i.room);
      stays = omega (arith, i.stays, c.advance-ended.ensures.faults);
    }
