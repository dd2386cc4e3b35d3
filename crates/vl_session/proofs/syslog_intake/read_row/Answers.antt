use Rattle.std.proofs.Common.{◌≡◌, sym, subst, ◌∙◌, pos, unsigned_abs, FitsSigned, w64, to_z, of_z}
use Rattle.std.proofs.lemmas.Int.{to_z-of_z}
use Rattle.ingest_row.specs.Syslog.{IsRowOfSyslog}
use Rattle.vl_session.proofs.QueryLemmas.{same_moment}
use Rattle.vl_session.proofs.SyslogIntake.{message_is_no_memory, row_is_no_memory}
use Rattle.vl_session.proofs.syslog_intake.read_row.Goals as goal

pub returns-in-Ok-clause-outcome : goal.returns-in-Ok-clause-outcome
returns-in-Ok-clause-outcome c =
    let fits : FitsSigned w64 c.args.now = c.ranges.now in
    let moment : to_z w64 (of_z w64 c.args.now) ≡ pos (unsigned_abs c.args.now) =
    to_z-of_z w64 c.args.now fits ∙ same_moment c.args.now c.requires in
    subst (λ z. IsRowOfSyslog z c.args.message.now c.in-Ok.row) moment c.in-Ok.ensures.read

pub returns-in-Err-Message-clause-outcome : goal.returns-in-Err-Message-clause-outcome
returns-in-Err-Message-clause-outcome c = λ row is.
    let fits : FitsSigned w64 c.args.now = c.ranges.now in
    let moment : to_z w64 (of_z w64 c.args.now) ≡ pos (unsigned_abs c.args.now) =
    to_z-of_z w64 c.args.now fits ∙ same_moment c.args.now c.requires in
    c.in-Err-Message.ensures.none
    (λ same. message_is_no_memory c.in-Err-Message.field-0-0 (sym c.in-Err-Message.field-0-is ∙ same)) row
    (subst (λ z. IsRowOfSyslog z c.args.message.now row) (sym moment) is)

pub returns-in-Err-Row-clause-outcome : goal.returns-in-Err-Row-clause-outcome
returns-in-Err-Row-clause-outcome c = λ row is.
    let fits : FitsSigned w64 c.args.now = c.ranges.now in
    let moment : to_z w64 (of_z w64 c.args.now) ≡ pos (unsigned_abs c.args.now) =
    to_z-of_z w64 c.args.now fits ∙ same_moment c.args.now c.requires in
    c.in-Err-Row.ensures.none (λ same. row_is_no_memory c.in-Err-Row.field-0-0
    (sym c.in-Err-Row.field-0-is ∙ same)) row
    (subst (λ z. IsRowOfSyslog z c.args.message.now row) (sym moment) is)
