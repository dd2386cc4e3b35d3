use Rattle.std.proofs.Common.{◌<◌, length, sym, ap, subst, arith}
use Rattle.log_desk.specs.Seen.{caller_of, seen_of}
use Rattle.vl_session.specs.Seen.{Has, batches_of_rows}
use Rattle.vl_session.specs.SyslogSession.{TakesAll, end_effect}
use Rattle.vl_session.specs.SyslogTaking.{HoldsUp}
use Rattle.vl_session.proofs.SyslogIntake.{held_up, refused_has, takes_one}
use Rattle.vl_session.proofs.syslog_intake.insert_rows.Goals as goal

pub returns-in-Ok-insert-clause-ok : goal.returns-in-Ok-insert-clause-ok
returns-in-Ok-insert-clause-ok g c =
    subst (λ rows. TakesAll (caller_of c.args.pass.now) (seen_of c.args.pass.now) (batches_of_rows rows)
    (seen_of c.insert.new.pass)) c.in-Ok.ensures.ok.1
    (takes_one (caller_of c.args.pass.now) (seen_of c.args.pass.now) (seen_of c.insert.new.pass) c.in-Ok.batch
    c.in-Ok.ensures.rules.some c.in-Ok-insert.ensures.takes)

pub returns-in-Err-clause-refused : goal.returns-in-Err-clause-refused
returns-in-Err-clause-refused g c =
    let some : 0 < length c.args.rows.items =
    omega (arith, ap length c.in-Ok.ensures.ok.1, c.in-Ok.ensures.rules.some) in
    subst (HoldsUp c.args.rows.items (seen_of c.insert.new.pass)) (sym c.from.ensures)
    (held_up (caller_of c.args.pass.now) c.args.rows.items (seen_of c.args.pass.now) (seen_of c.insert.new.pass)
    c.in-Err.fault some c.in-Err.ensures.refused)

pub returns-in-Err-clause-has : goal.returns-in-Err-clause-has
returns-in-Err-clause-has g c =
    let old = seen_of c.args.pass.now in
    let new = seen_of c.insert.new.pass in
    subst (λ end. Has (caller_of c.args.pass.now) old new (end_effect end)) (sym c.from.ensures)
    (refused_has (caller_of c.args.pass.now) old new c.in-Err.fault c.in-Err.ensures.refused)
