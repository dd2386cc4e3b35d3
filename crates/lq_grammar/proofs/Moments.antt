-- The meaning of durations and bounds is right, and the only one.
use Rattle.std.proofs.Common.{◌≡◌, ℕ, zero, suc, ◌+◌, ◌^◌, ◌<◌, ◌≤◌, Bool, true, false, cond, ◌&&◌}
use Rattle.std.proofs.Common.{nat_le, ltb}
use Rattle.std.proofs.Common.{List, [], ◌∷◌, length, drop, slice_index, ℤ, pos, Option, Some, None, Result, Ok, Err}
use Rattle.std.proofs.Common.{inl, inr, refl, sym, ap, ◌∙◌, subst, arith}
use Rattle.std.proofs.lemmas.Bool.{ltb-true, ltb-false, and_parts}
use Rattle.std.proofs.lemmas.Int.{ints}
use Rattle.std.proofs.lemmas.List.{length-drop}
use Rattle.vl_row.specs.MomentText.{IsMomentInRange}
use Rattle.time_text.specs.Reading.{◌>>=◌, digits_len, number_at, AreAlike}
use Rattle.time_text.specs.DurationReading.{letter_unit, with_rest, unit_at, times, part_at, AnswersSum}
use Rattle.time_text.specs.Bound.{AreInRange}
use Rattle.time_text.specs.BoundReading.{bound_at}
use Rattle.time_text.specs.declared.fault.TimeFault.TheVariants.{NotATime, OutOfRange as NotInRange}
use Rattle.time_text.specs.declared.fault.DurationFault.{DurationFault}
use Rattle.time_text.specs.declared.fault.DurationFault.TheVariants.{NotADuration, OutOfRange}
use Rattle.time_text.proofs.Counts.{bind_some, some_is, test_some}
use Rattle.time_text.proofs.Durations.{IsLeft, all_left, next_left, all_read, none_spelled, empty_not_spelled}
use Rattle.time_text.proofs.Durations.{is_only as one_duration}
use Rattle.time_text.proofs.Bounds.{is_read, is_no_time, is_out_of_range, is_only as one_bound}
use Rattle.lq_grammar.specs.Values.{Bytes}
use Rattle.lq_grammar.specs.Moments.{SaysDuration, sum_from, span_of, duration_of, SaysBound, is_kept, kept, bound_of}

-- ---- a part of a duration takes a byte or more

-- what follows is shorter, if anything was read
pub record Shortens (bytes : List ℕ) (read : Option (ℕ × List ℕ)) : Type 0 where
  pub shorter : (x : ℕ × List ℕ) → read ≡ Some x → length x.1 < length bytes

either_way : (bytes : List ℕ) (b : Bool) (r s : Option (ℕ × List ℕ)) → Shortens bytes r → Shortens bytes s
    → Shortens bytes (cond b r s)
either_way bytes true r s one other = one
either_way bytes false r s one other = other

dropped : (k nanos : ℕ) (bytes : List ℕ) → 0 < k → 0 < length bytes → Shortens bytes (Some (nanos, drop k bytes))
dropped k nanos bytes some more = record {
  shorter = λ x e.
      let short : length (drop k bytes) ≡ length x.1 = ap (λ (p : ℕ × List ℕ). length p.1) (some_is _ x e) in
      omega (arith, short, length-drop k bytes);
}

letter_shorter : (bytes : List ℕ) → 0 < length bytes
    → Shortens bytes (letter_unit (slice_index bytes 0) >>= with_rest (drop 1 bytes))
letter_shorter bytes some = record {
  shorter = λ x e.
      let step = bind_some (letter_unit (slice_index bytes 0)) (with_rest (drop 1 bytes)) x e in
      (dropped 1 step.0 bytes (omega arith) some).shorter x step.2;
}

unit_shorter : (bytes : List ℕ) → 0 < length bytes → Shortens bytes (unit_at bytes)
unfolding unit_at
unit_shorter bytes some =
    either_way bytes _ _ _ (dropped 3 1_000 bytes (omega arith) some)
    (either_way bytes _ _ _ (dropped 2 1 bytes (omega arith) some)
    (either_way bytes _ _ _ (dropped 2 1_000 bytes (omega arith) some)
    (either_way bytes _ _ _ (dropped 2 1_000_000 bytes (omega arith) some) (letter_shorter bytes some))))

no_unit : (bytes : List ℕ) (x : ℕ × List ℕ) → bytes ≡ [] → unit_at bytes ≡ Some x → ⊥
unfolding unit_at letter_unit
no_unit [] x none e = cc
no_unit (b ∷ bytes) x none e = cc

not_empty : (bytes : List ℕ) (x : ℕ × List ℕ) → unit_at bytes ≡ Some x → 0 < length bytes
not_empty [] x e = absurd (no_unit [] x refl e)
not_empty (b ∷ bytes) x e = omega arith

part_shorter : (bytes : List ℕ) (nanos : ℕ) (rest : List ℕ) → part_at bytes ≡ Some (nanos, rest)
    → length rest < length bytes
unfolding part_at
part_shorter bytes nanos rest e =
    let len = digits_len bytes in
    let test = test_some (nat_le 1 len) _ (nanos, rest) e in
    let step = bind_some (unit_at (drop len bytes)) (times (number_at bytes)) (nanos, rest) test.1 in
    let same : length step.0.1 ≡ length rest = ap (λ (p : ℕ × List ℕ). length p.1) (some_is _ (nanos, rest) step.2) in
    let short = (unit_shorter (drop len bytes) (not_empty (drop len bytes) step.0 step.1)).shorter step.0 step.1 in
    omega (arith, same, short, length-drop len bytes)

-- ---- durations

added : (sum nanos read : ℕ) → AreAlike sum read → AreAlike (sum + nanos) (read + nanos)
added sum nanos read (inl same) = inl (omega arith)
added sum nanos read (inr beyond) = inr (omega arith, omega arith)

sums : (bytes rest : List ℕ) (most sum : ℕ) → IsLeft bytes rest sum → length rest ≤ most → 0 < length bytes
    → AnswersSum (sum_from most sum rest) bytes
sums bytes [] zero sum left less some = all_read bytes [] sum left refl some
sums bytes [] (suc most) sum left less some = all_read bytes [] sum left refl some
sums bytes (byte ∷ rest) zero sum left less some = absurd (omega (arith, less))
sums bytes (byte ∷ rest) (suc most) sum left less some = by_part (part_at (byte ∷ rest)) refl
    (λ nanos next e. sums bytes next most (sum + nanos)
    (next_left bytes (byte ∷ rest) next sum nanos (sum + nanos) left e (added sum nanos))
    (let short = part_shorter (byte ∷ rest) nanos next e in omega (arith, less, short)) some)
  where
    by_part : (p : Option (ℕ × List ℕ)) → part_at (byte ∷ rest) ≡ p
        → ((nanos : ℕ) (next : List ℕ) → part_at (byte ∷ rest) ≡ Some (nanos, next)
        → AnswersSum (sum_from most (sum + nanos) next) bytes)
        → AnswersSum (p >>= λ part. sum_from most (sum + part.0) part.1) bytes
    by_part None e again = none_spelled bytes (byte ∷ rest) sum left (omega arith) e
    by_part (Some x) e again = again x.0 x.1 e

says_sum : (text : Bytes) (sum : Option ℕ) → AnswersSum sum text → SaysDuration text (span_of sum)
says_sum text None h = h
says_sum text (Some sum) (nanos, spelled, alike) = by_test (ltb sum (2 ^ 63)) refl alike
  where
    by_test : (b : Bool) → ltb sum (2 ^ 63) ≡ b → AreAlike sum nanos
        → SaysDuration text (cond b (Ok (pos sum)) (Err OutOfRange))
    by_test true e (inl same) =
        (nanos, ap pos same, spelled, subst (λ (n : ℕ). n < 2 ^ 63) same (ltb-true sum (2 ^ 63) e))
    by_test true e (inr beyond) = absurd (omega (arith, ltb-true sum (2 ^ 63) e, beyond.0))
    by_test false e (inl same) = (nanos, spelled, subst (λ (n : ℕ). 2 ^ 63 ≤ n) same (ltb-false sum (2 ^ 63) e))
    by_test false e (inr beyond) = (nanos, spelled, beyond.1)

pub duration_says : (text : Bytes) → SaysDuration text (duration_of text)
unfolding duration_of
duration_says [] = says_sum [] None (empty_not_spelled [] refl)
duration_says (byte ∷ text) =
    let whole = byte ∷ text in
    says_sum whole (sum_from (length whole) 0 whole)
    (sums whole whole (length whole) 0 (all_left whole) (omega arith) (omega arith))

pub duration_only : (text : Bytes) (one other : Result ℤ DurationFault) → SaysDuration text one
    → SaysDuration text other → one ≡ other
duration_only text (Ok a) (Ok b) (n, is, h, low) (m, be, k, under) =
    ap Ok (is ∙ ap pos (one_duration text n m h k) ∙ sym be)
duration_only text (Ok a) (Err NotADuration) (n, is, h, low) none = absurd (none n h)
duration_only text (Ok a) (Err OutOfRange) (n, is, h, low) (m, k, over) =
    absurd (omega (arith, low, over, one_duration text n m h k))
duration_only text (Err NotADuration) (Ok b) none (m, be, k, under) = absurd (none m k)
duration_only text (Err NotADuration) (Err NotADuration) none nor = refl
duration_only text (Err NotADuration) (Err OutOfRange) none (m, k, over) = absurd (none m k)
duration_only text (Err OutOfRange) (Ok b) (n, h, over) (m, be, k, under) =
    absurd (omega (arith, over, under, one_duration text n m h k))
duration_only text (Err OutOfRange) (Err NotADuration) (n, h, over) none = absurd (none n h)
duration_only text (Err OutOfRange) (Err OutOfRange) one other = refl

-- ---- bounds

in_range : (moment : ℤ) → is_kept moment ≡ true → IsMomentInRange moment
in_range moment e = (grind (arith, ints), grind (arith, ints))

is_in_range : (moment : ℤ) → IsMomentInRange moment → is_kept moment ≡ true
is_in_range moment h = grind (arith, ints)

pub bound_says : (text : Bytes) → SaysBound text (bound_of text)
unfolding bound_of
bound_says text = by_read (bound_at text) refl
  where
    apart : (ends : ℤ × ℤ) → is_kept ends.0 && is_kept ends.1 ≡ false → AreInRange ends.0 ends.1 → ⊥
    apart ends e h = let a = is_in_range ends.0 h.0 in let b = is_in_range ends.1 h.1 in cc

    by_test : (ends : ℤ × ℤ) → bound_at text ≡ Some ends → (b : Bool) → is_kept ends.0 && is_kept ends.1 ≡ b
        → SaysBound text (cond b (Some ends) None)
    by_test ends e true both =
        let parts = and_parts (is_kept ends.0) (is_kept ends.1) both in
        is_read (Ok (record { from = ends.0; to = ends.1 })) text
        (e, (in_range ends.0 parts.0, in_range ends.1 parts.1))
    by_test ends e false some = λ first last spelled range.
        let out = is_out_of_range (Err NotInRange) text (ends, e, apart ends some) refl in
        let same = one_bound text first last out.0 out.1 spelled out.2 in
        out.3 (
          subst (λ (m : ℤ). IsMomentInRange m) same.0 range.0,
          subst
              (λ (m : ℤ). IsMomentInRange m) same.1 range.1,
        )

    by_read : (read : Option (ℤ × ℤ)) → bound_at text ≡ read → SaysBound text (kept read)
    by_read None e = λ first last spelled range. is_no_time (Err NotATime) text e refl first last spelled
    by_read (Some ends) e = by_test ends e (is_kept ends.0 && is_kept ends.1) refl

pub bound_only : (text : Bytes) (one other : Option (ℤ × ℤ)) → SaysBound text one → SaysBound text other → one ≡ other
bound_only text None None none nor = refl
bound_only text None (Some b) none h = absurd (none b.0 b.1 h.0 h.1)
bound_only text (Some a) None h none = absurd (none a.0 a.1 h.0 h.1)
bound_only text (Some a) (Some b) h k =
    let same = one_bound text a.0 a.1 b.0 b.1 h.0 k.0 in
    ap (λ (first : ℤ). Some (first, a.1)) same.0 ∙ ap (λ (last : ℤ). Some (b.0, last)) same.1
