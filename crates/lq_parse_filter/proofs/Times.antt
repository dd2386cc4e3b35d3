-- Durations and bounds as they are read.
use Rattle.std.proofs.Common.{◌≡◌, ℕ, ◌^◌, ◌<◌, ◌≤◌, ℤ, pos, Some, None, Result, Ok, Err, IfOk, refl}
use Rattle.std.proofs.Common.{subst}
use Rattle.std.specs.Option.{option_map}
use Rattle.std.specs.Result.{result_ok}
use Rattle.vl_row.specs.MomentText.{IsMomentInRange}
use Rattle.time_text.specs.Duration.{SpellsDuration}
use Rattle.time_text.specs.Bound.{SpellsBound, AreInRange}
use Rattle.time_text.specs.declared.bound.Span.{Span}
use Rattle.time_text.specs.declared.fault.TimeFault.{TimeFault}
use Rattle.time_text.specs.declared.fault.TimeFault.TheVariants.{NotATime, OutOfRange as NotInRange}
use Rattle.time_text.specs.declared.fault.DurationFault.{DurationFault}
use Rattle.time_text.specs.declared.fault.DurationFault.TheVariants.{NotADuration, OutOfRange}
use Rattle.time_text.proofs.Bounds.{is_only}
use Rattle.lq_grammar.specs.Values.{Bytes}
use Rattle.lq_grammar.specs.Moments.{duration_of, bound_of}
use Rattle.lq_grammar.proofs.Moments.{duration_says, duration_only, bound_says, bound_only}
use Rattle.lq_parse_filter.specs.Ends.{ends_of}

abbrev Answer : Type 0
Answer = Result ℤ DurationFault

abbrev failed : DurationFault → Answer
failed fault = Err fault

pub duration_read : (text : Bytes) (r : Answer)
    → IfOk r (λ span. (n : ℕ) × (span ≡ pos n) × SpellsDuration text n × (n < 2 ^ 63))
    → (r ≡ failed NotADuration → (n : ℕ) → SpellsDuration text n → ⊥)
    → (r ≡ failed OutOfRange → (n : ℕ) × SpellsDuration text n × (2 ^ 63 ≤ n)) → r ≡ duration_of text
duration_read text (Ok span) ok none out = duration_only text (Ok span) (duration_of text) ok (duration_says text)
duration_read text (Err NotADuration) ok none out =
    duration_only text (Err NotADuration) (duration_of text) (none refl) (duration_says text)
duration_read text (Err OutOfRange) ok none out =
    duration_only text (Err OutOfRange) (duration_of text) (out refl) (duration_says text)

abbrev Bounded : Type 0
Bounded = Result Span TimeFault

abbrev refused : TimeFault → Bounded
refused fault = Err fault

pub bound_read : (text : Bytes) (r : Bounded)
    → IfOk r (λ span. SpellsBound text span.from span.to × AreInRange span.from span.to)
    → (r ≡ refused NotATime → (first last : ℤ) → SpellsBound text first last → ⊥)
    → (r ≡ refused NotInRange
    → (first : ℤ) × (last : ℤ) × SpellsBound text first last × (AreInRange first last → ⊥))
    → option_map ends_of (result_ok r) ≡ bound_of text
bound_read text (Ok span) ok none out =
    bound_only text (Some (ends_of span)) (bound_of text) ok (bound_says text)
bound_read text (Err NotATime) ok none out =
    bound_only text None (bound_of text) (λ first last spelled range. none refl first last spelled) (bound_says text)
bound_read text (Err NotInRange) ok none out =
    let far = out refl in
    bound_only text None (bound_of text) (λ first last spelled range.
    let same = is_only text first last far.0 far.1 spelled far.2 in
    far.3 (subst (λ (m : ℤ). IsMomentInRange m) same.0 range.0, subst (λ (m : ℤ). IsMomentInRange m) same.1 range.1))
    (bound_says text)
