use Rattle.std.proofs.Common.{◌∙◌, ap, sym, Err, arith, w64, FitsSigned}
use Rattle.std.proofs.lemmas.Int.{ints, to_z-of_z}
use Rattle.ingest_row.proofs.Times.{none_inside, spelled}
use Rattle.ingest_row.proofs.line.time_of.Goals as goal

pub returns-in-Ok-clause-only : goal.returns-in-Ok-clause-only
returns-in-Ok-clause-only c = λ other is.
    let read = c.in-Ok.ensures.ok in
    let fits : FitsSigned w64 c.in-Ok.moment = omega (arith, ints) in
    c.in-Ok.ensures.only other c.in-Ok.moment
    (spelled c.args.now c.args.text.now other (sym c.if-says_now.ensures) is).0 read.0
    ∙ sym (to_z-of_z w64 c.in-Ok.moment fits)

pub returns-in-Err-NotATime-clause-none : goal.returns-in-Err-NotATime-clause-none
returns-in-Err-NotATime-clause-none c = λ _ time is.
    c.in-Err-NotATime.ensures.not_a_time (ap Err c.in-Err-NotATime.field-0-is) time
    (spelled c.args.now c.args.text.now time (sym c.if-says_now.ensures) is).0

pub returns-in-Err-OutOfRange-clause-none : goal.returns-in-Err-OutOfRange-clause-none
returns-in-Err-OutOfRange-clause-none c = λ _ time is.
    none_inside c.args.now c.args.text.now time (sym c.if-says_now.ensures) c.in-Err-OutOfRange.ensures.only
    (c.in-Err-OutOfRange.ensures.out_of_range (ap Err c.in-Err-OutOfRange.field-0-is)) is
