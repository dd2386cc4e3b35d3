use Rattle.std.proofs.Common.{List, ℕ, Err, sym, ap, subst, ◌∙◌, FitsSigned, w64, arith}
use Rattle.std.proofs.lemmas.Bool.{false≢true}
use Rattle.std.proofs.lemmas.Int.{ints, to_z-of_z}
use Rattle.log_model.specs.MomentText.{SpellsMoment, IsMomentInRange, dated}
use Rattle.syslog_in.proofs.Timestamps.{timestamp_has_form, timestamp_from_moment, timestamp_visible}
use Rattle.syslog_in.proofs.header.moment.Goals as goal

pub returns-in_default-clause-none : goal.returns-in_default-clause-none
returns-in_default-clause-none c = λ moment is.
    false≢true (sym c.in_default.ensures.none ∙ timestamp_visible c.args.part.now moment is)

pub returns-then-not-has_form-clause-none : goal.returns-then-not-has_form-clause-none
returns-then-not-has_form-clause-none c = λ moment is.
    false≢true (sym (sym c.has_form.ensures ∙ c.if-not-has_form.true) ∙ timestamp_has_form c.args.part.now moment is)

pub returns-in-Ok-clause-some : goal.returns-in-Ok-clause-some
returns-in-Ok-clause-some c =
    let ok = c.in-Ok.ensures.ok in
    let moment = c.in-Ok.moment in
    let fits : FitsSigned w64 moment = omega (arith, ints) in
    rw (to_z-of_z w64 moment fits) (timestamp_from_moment c.args.part.now moment
    (subst (λ (t : List ℕ). SpellsMoment t moment) c.in-Some.ensures.some ok.0) ok.1
    (sym c.has_form.ensures ∙ c.if-not-has_form.false))

pub returns-in-Ok-clause-only : goal.returns-in-Ok-clause-only
returns-in-Ok-clause-only c = λ other is.
    let ok = c.in-Ok.ensures.ok in
    let moment = c.in-Ok.moment in
    let fits : FitsSigned w64 moment = omega (arith, ints) in
    let spelled = subst (λ (t : List ℕ). SpellsMoment t other) (sym c.in-Some.ensures.some) (dated is.is_date_time) in
    c.in-Ok.ensures.only other moment spelled ok.0 ∙ sym (to_z-of_z w64 moment fits)

pub returns-in-Err-NotATime-clause-none : goal.returns-in-Err-NotATime-clause-none
returns-in-Err-NotATime-clause-none c = λ moment is.
    c.in-Err-NotATime.ensures.not_a_time (ap Err c.in-Err-NotATime.field-0-is) moment
    (subst (λ (t : List ℕ). SpellsMoment t moment) (sym c.in-Some.ensures.some) (dated is.is_date_time))

pub returns-in-Err-OutOfRange-clause-none : goal.returns-in-Err-OutOfRange-clause-none
returns-in-Err-OutOfRange-clause-none c = λ moment is.
    let outside = c.in-Err-OutOfRange.ensures.out_of_range (ap Err c.in-Err-OutOfRange.field-0-is) in
    let spelled = subst (λ (t : List ℕ). SpellsMoment t moment) (sym c.in-Some.ensures.some) (dated is.is_date_time) in
    outside.2 (subst IsMomentInRange (c.in-Err-OutOfRange.ensures.only moment outside.0 spelled outside.1) is.in_range)
