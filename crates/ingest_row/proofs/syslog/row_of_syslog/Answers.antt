use Rattle.std.proofs.Common.{FitsSigned, w64, arith, ◌∙◌, ap, ℤ}
use Rattle.std.proofs.lemmas.Int.{ints, to_z-of_z}
use Rattle.ingest_row.specs.Syslog.{moment_of}
use Rattle.ingest_row.proofs.SyslogRows.{only_syslog_row, no_syslog_row, refused_message, no_message}
use Rattle.ingest_row.proofs.syslog.row_of_syslog.Goals as goal

pub returns-in-Ok-clause-only : goal.returns-in-Ok-clause-only
returns-in-Ok-clause-only c =
    let now : FitsSigned w64 c.args.now = c.ranges.now in
    let fits : FitsSigned w64 c.moment_of.result = omega (arith, ints) in
    only_syslog_row c.args.now _ c.args.m.now c.in-Ok.field-0.time c.in-Ok.field-0.fields c.row_at.result
    c.in-Ok.ensures.only (to_z-of_z w64 c.moment_of.result fits ∙ c.moment_of.ensures
    ∙ ap (λ (n : ℤ). moment_of n c.in-Ok.field-0.time) (to_z-of_z w64 c.args.now now)) c.row_at.ensures.row

pub returns-in-Ok-clause-none : goal.returns-in-Ok-clause-none
returns-in-Ok-clause-none c =
    let now : FitsSigned w64 c.args.now = c.ranges.now in
    let fits : FitsSigned w64 c.moment_of.result = omega (arith, ints) in
    no_syslog_row c.args.now _ c.args.m.now c.in-Ok.field-0.time c.in-Ok.field-0.fields c.row_at.result
    c.in-Ok.ensures.only (to_z-of_z w64 c.moment_of.result fits ∙ c.moment_of.ensures
    ∙ ap (λ (n : ℤ). moment_of n c.in-Ok.field-0.time) (to_z-of_z w64 c.args.now now)) c.row_at.ensures.fault

pub returns-in-Err-clause-none : goal.returns-in-Err-clause-none
returns-in-Err-clause-none c =
    rw c.kind_of.ensures (no_message c.in-Err.fault c.args.now c.args.m.now c.in-Err.ensures.none)

pub returns-in-Err-clause-refused : goal.returns-in-Err-clause-refused
returns-in-Err-clause-refused c =
    rw c.kind_of.ensures (refused_message c.in-Err.fault c.args.now c.args.m.now c.in-Err.ensures.fault)
