use Rattle.std.proofs.Common.{FitsSigned, w64, arith}
use Rattle.std.proofs.lemmas.Int.{ints, to_z-of_z}
use Rattle.vl_session.proofs.TurnLemmas.{last_is, reply_cut, reply_took, told_at}
use Rattle.vl_session.proofs.turn.take_turn.Goals as goal

pub returns-in-Err-clause-turn : goal.returns-in-Err-clause-turn
returns-in-Err-clause-turn g c =
    let range = c.now-now.ensures.in_range in
    let fits : FitsSigned w64 c.now-now.result = omega (arith, ints, range.0, range.1) in
    let t = c.serve-reply.ensures.served in (
      t.0,
      t.1,
      told_at _ _ c.now-now.result t.0 (simp to_z-of_z at t.2) c.now-now.ensures.told,
      reply_cut _ _ _ _ t.0 _ t.3 c.in-Err.ensures.err c.in-Err.ensures.cause.failed,
    )

pub returns-in-Ok-clause-turn : goal.returns-in-Ok-clause-turn
returns-in-Ok-clause-turn g c =
    let range = c.now-now.ensures.in_range in
    let fits : FitsSigned w64 c.now-now.result = omega (arith, ints, range.0, range.1) in
    let t = c.serve-reply.ensures.served in (
      t.0,
      t.1,
      told_at _ _ c.now-now.result t.0 (simp to_z-of_z at t.2) c.now-now.ensures.told,
      (last_is t.0 _ _ t.1.asked_is c.if-request.true, reply_took _ _ t.0 _ t.3 c.in-Ok.ensures.ok),
    )

pub returns-clause-turn : goal.returns-clause-turn
returns-clause-turn g c =
    let range = c.now-now.ensures.in_range in
    let fits : FitsSigned w64 c.now-now.result = omega (arith, ints, range.0, range.1) in
    let t = c.serve-reply.ensures.served in (
      t.0,
      t.1,
      told_at _ _ c.now-now.result t.0 (simp to_z-of_z at t.2) c.now-now.ensures.told,
      (last_is t.0 _ _ t.1.asked_is c.if-request.false, reply_took _ _ t.0 _ t.3 c.in-Ok-2.ensures.ok),
    )
