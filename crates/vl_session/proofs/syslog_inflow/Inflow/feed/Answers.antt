use Rattle.std.proofs.Common.{◌+◌, length, Some, sym, subst, arith}
use Rattle.vl_session.specs.SyslogTaking.{Comes}
use Rattle.vl_session.proofs.SyslogInflow.{feed_fault, feeds, is_piece}
use Rattle.vl_session.proofs.syslog_inflow.Inflow.feed.Goals as goal

pub returns-in-Ok : goal.returns-in-Ok
returns-in-Ok c = record {
  comes = λ fed source h is gave.
      let old = c.args.self.now in
      let piece = c.args.piece.now in
      let p = is_piece fed piece old.taken source gave c.requires.some c.requires.few is c.requires.within in (
        piece,
        feeds fed piece old.taken source old.messages c.feed.new.out c.feed.new.self.rest p c.requires.empty
            (c.in-Ok.ensures.given fed h),
        c.in-Ok.ensures.taken fed h,
        omega (arith, p.counted, c.if-self-eq-SESSION_LIMIT.true),
      );
}

pub returns-in-Ok-2 : goal.returns-in-Ok-2
returns-in-Ok-2 c = record {
  comes = λ fed source h is gave.
      let old = c.args.self.now in
      let piece = c.args.piece.now in
      let p = is_piece fed piece old.taken source gave c.requires.some c.requires.few is c.requires.within in (
        piece,
        feeds fed piece old.taken source old.messages c.feed.new.out c.feed.new.self.rest p c.requires.empty
            (c.in-Ok-2.ensures.given fed h),
        c.in-Ok-2.ensures.taken fed h,
        omega (arith, p.counted),
        omega (arith, c.requires.within, c.if-self-eq-SESSION_LIMIT.false),
      );
}

pub returns-in-Err : goal.returns-in-Err
returns-in-Err c = record {
  comes = λ fed source h is gave.
      let old = c.args.self.now in
      let piece = c.args.piece.now in
      let p = is_piece fed piece old.taken source gave c.requires.some c.requires.few is c.requires.within in
      subst (λ end. Comes fed source old.framer c.feed.new.self c.feed.new.out (old.taken + length piece) (Some end))
      (sym c.from.ensures)
      (feed_fault fed piece old.taken (old.taken + length piece) source old.framer c.feed.new.self old.messages
      c.feed.new.out c.in-Err.fault p c.requires.empty (c.in-Err.ensures.fault fed h));
}
