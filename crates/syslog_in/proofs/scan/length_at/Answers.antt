use Rattle.std.proofs.Common.{refl, sym, arith, ◌∙◌, below_more, length, ◌≡◌, ℕ, Some, subst}
use Rattle.syslog_in.specs.Reading.{length_at}
use Rattle.syslog_in.proofs.Lengths.{one_more, all_read, too_many}
use Rattle.syslog_in.proofs.scan.length_at.Goals as goal

pub returns-then-not-is_ascii_digit-clause-value : goal.returns-then-not-is_ascii_digit-clause-value
returns-then-not-is_ascii_digit-clause-value c =
    all_read c.args.bytes.now c.loop-digits.digits c.loop-digits.value c.loop-digits.invariant (omega arith)
    (λ _. sym c.is_ascii_digit.ensures.value ∙ c.if-not-is_ascii_digit.true)

pub returns-then-value-gt-FRAME_LIMIT-clause-value : goal.returns-then-value-gt-FRAME_LIMIT-clause-value
returns-then-value-gt-FRAME_LIMIT-clause-value c =
    too_many c.args.bytes.now c.loop-digits.digits c.loop-digits.value _ c.loop-digits.invariant c.loop-digits-test.true
    (sym c.is_ascii_digit.ensures.value ∙ c.if-not-is_ascii_digit.false) refl (omega arith)

pub loop-digits-preserved : goal.loop-digits-preserved
loop-digits-preserved c =
    let digit = sym c.is_ascii_digit.ensures.value ∙ c.if-not-is_ascii_digit.false in
    record {
      each = below_more _ _ c.loop-digits.invariant.each digit;
      value = one_more c.args.bytes.now c.loop-digits.digits c.loop-digits.value _ c.loop-digits.invariant
          c.loop-digits-test.true digit refl;
      few = omega arith;
    }

pub returns-clause-value : goal.returns-clause-value
returns-clause-value c =
    let all : c.loop-digits.digits ≡ length c.args.bytes.now = omega arith in
    subst (λ (n : ℕ). Some (n, c.loop-digits.value) ≡ length_at c.args.bytes.now) all
    (all_read c.args.bytes.now c.loop-digits.digits c.loop-digits.value c.loop-digits.invariant (omega arith)
    (λ h. absurd (omega arith)))
