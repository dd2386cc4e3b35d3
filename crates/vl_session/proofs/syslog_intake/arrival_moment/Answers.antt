use Rattle.std.proofs.Common.{subst, sym}
use Rattle.vl_session.specs.SyslogSession.{moment_of}
use Rattle.vl_session.specs.Turns.{GaveMoments}
use Rattle.vl_session.proofs.TurnLemmas.{told-none}
use Rattle.vl_session.proofs.syslog_intake.arrival_moment.Goals as goal

pub returns-then-is_empty-clause-told : goal.returns-then-is_empty-clause-told
returns-then-is_empty-clause-told g c =
    let given = g.C.Clock.moments c.args.clock.now in
    subst (λ messages. GaveMoments given given (moment_of messages 0)) (sym (c.is_empty.ensures.0 c.if-is_empty.true))
    (told-none given)
