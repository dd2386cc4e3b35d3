-- Why no frame stands at the start of bytes is read as it is spelled.
use Rattle.std.proofs.Common.{◌≡◌, ℕ, ◌≤◌, ◌<◌, true, false, ◌==◌, nat_lt, List, [], ◌∷◌, ◌++◌}
use Rattle.std.proofs.Common.{length, take}
use Rattle.std.proofs.Common.{drop, refl, sym, ap, arith, ◌∙◌, ◌⊎◌, inl, inr}
use Rattle.std.specs.Char.{is_ascii_digit}
use Rattle.std.proofs.lemmas.Bool.{cases_Bool, ltb-true, lt-ltb}
use Rattle.std.proofs.lemmas.List.{take-append-drop, append_assoc, length-append, take_at, drop_at}
use Rattle.std.proofs.lemmas.List.{length-take-le}
use Rattle.std.proofs.lemmas.List.Sums.{prefix_len-le-length}
use Rattle.syslog_in.specs.Framing.{frame_limit, begins_length, length_of}
use Rattle.syslog_in.specs.Framing.{is_no_feed}
use Rattle.syslog_in.specs.Framing.{HasBadLength, IsTooLong, long_length}
use Rattle.syslog_in.specs.Framing.{long_line}
use Rattle.syslog_in.specs.Reading.{bad_length, too_long, digits_len, number_at}
use Rattle.syslog_in.specs.Reading.{behind_blank}
use Rattle.syslog_in.specs.Reading.{behind_digits, counted_at, line_len, behind_line, line_at, step_at}
use Rattle.syslog_in.proofs.Runs.{stops, run_then, run_again}
use Rattle.syslog_in.proofs.Lengths.{front-le-number}
use Rattle.syslog_in.proofs.Steps.{within_or_beyond, digits_here, line_here}
use Rattle.syslog_in.proofs.Steps.{step_counted}
use Rattle.syslog_in.proofs.Steps.{step_line_some, begins_same, length_again}

-- ---- a length with a wrong byte

bad_behind : (digits value : ℕ) (rest : List ℕ) (place : ℕ) → behind_digits digits value rest ≡ bad_length place
    → (byte : ℕ) × (more : List ℕ) × (rest ≡ byte ∷ more) × (byte == 32 ≡ false) × (place ≡ digits)
bad_behind digits value [] place e = absurd cc
bad_behind digits value (byte ∷ rest) place e =
    elim (cases_Bool (byte == 32)) [
      | inl blank ↦ no_blank (cases_Bool (nat_lt (length rest) value)) (rw blank at e)
      | inr other ↦ let same = rw other at e in (byte, rest, refl, other, cc)
    ]
  where
    no_blank : (nat_lt (length rest) value ≡ true) ⊎ (nat_lt (length rest) value ≡ false)
        → behind_blank value rest ≡ bad_length place
        → (first : ℕ) × (more : List ℕ) × (byte ∷ rest ≡ first ∷ more) × (first == 32 ≡ false) × (place ≡ digits)
    no_blank (inl few) is = let wrong = rw few at is in absurd cc
    no_blank (inr enough) is = let wrong = rw enough at is in absurd cc

bad_counted : (bytes : List ℕ) (place : ℕ) → begins_length bytes ≡ true → counted_at bytes ≡ bad_length place
    → HasBadLength bytes place
unfolding counted_at
bad_counted bytes place first e =
    let n = digits_len bytes in
    elim (within_or_beyond bytes) [
      | inl within ↦
          let behind = bad_behind n (number_at bytes) (drop n bytes) place (rw within.1 at e) in
          record {
            digits = take n bytes;
            byte = behind.0;
            more = behind.1;
            are_digits = digits_here bytes first;
            few = within.0;
            no_digit = stops is_ascii_digit bytes behind.1 behind.0 behind.2;
            no_blank = behind.3;
            spelled = sym (take-append-drop n bytes) ∙ ap (λ (t : List ℕ). take n bytes ++ t) behind.2;
            place_is = behind.4 ∙ sym (length-take-le n bytes (prefix_len-le-length is_ascii_digit bytes));
          }
      | inr beyond ↦ let wrong = rw beyond.1 at e in absurd cc
    ]

no_bad_line : (bytes : List ℕ) (place : ℕ) → line_at bytes ≡ bad_length place → ⊥
unfolding line_at
no_bad_line bytes place e =
    elim (cases_Bool (nat_lt frame_limit (line_len bytes))) [
      | inl beyond ↦ let wrong = rw beyond at e in cc
      | inr within ↦ no_behind (take (line_len bytes) bytes) (drop (line_len bytes) bytes) (rw within at e)
    ]
  where
    no_behind : (line behind : List ℕ) → behind_line line behind ≡ bad_length place → ⊥
    no_behind line [] h = cc
    no_behind line (feed ∷ rest) h = cc

pub bad_takes : (bytes : List ℕ) (place : ℕ) → step_at bytes ≡ bad_length place → HasBadLength bytes place
unfolding step_at
bad_takes [] place e = absurd cc
bad_takes (byte ∷ bytes) place e =
    elim (cases_Bool (begins_length (byte ∷ bytes))) [
      | inl length ↦ bad_counted (byte ∷ bytes) place length (rw length at e)
      | inr line ↦ absurd (no_bad_line (byte ∷ bytes) place (rw line at e))
    ]

pub bad_again : (bytes : List ℕ) (place : ℕ) → HasBadLength bytes place → step_at bytes ≡ bad_length place
unfolding counted_at
bad_again bytes place h =
    let text = h.digits ++ h.byte ∷ h.more in
    let len = run_then is_ascii_digit h.digits h.more h.byte h.are_digits.each h.no_digit in
    ap step_at h.spelled
    ∙ step_counted text (begins_same h.digits (h.byte ∷ h.more) h.are_digits.first)
    ∙ rw (
      length_again h.digits (h.byte ∷ h.more) h.are_digits len h.few,
      drop_at h.digits (h.byte ∷ h.more) (length h.digits) refl,
      h.no_blank,
    ) (ap bad_length (sym h.place_is))

-- ---- what is too long

long_takes_line : (bytes : List ℕ) → begins_length bytes ≡ false → line_at bytes ≡ too_long → IsTooLong bytes
unfolding line_at
long_takes_line bytes first e =
    let n = line_len bytes in
    elim (cases_Bool (nat_lt frame_limit n)) [
      | inl beyond ↦ long_line (take n bytes) (drop n bytes) (line_here bytes first)
          (omega (arith, ltb-true frame_limit n beyond, length-take-le n bytes (prefix_len-le-length is_no_feed bytes)))
          (sym (take-append-drop n bytes))
      | inr within ↦ absurd (not_behind (take n bytes) (drop n bytes) (rw within at e))
    ]
  where
    not_behind : (line behind : List ℕ) → behind_line line behind ≡ too_long → ⊥
    not_behind line [] h = cc
    not_behind line (feed ∷ rest) h = cc

not_behind_digits : (digits value : ℕ) (rest : List ℕ) → behind_digits digits value rest ≡ too_long → ⊥
not_behind_digits digits value [] e = cc
not_behind_digits digits value (byte ∷ rest) e =
    elim (cases_Bool (byte == 32)) [
      | inl blank ↦ not_blank (cases_Bool (nat_lt (length rest) value)) (rw blank at e)
      | inr other ↦ let wrong = rw other at e in cc
    ]
  where
    not_blank : (nat_lt (length rest) value ≡ true) ⊎ (nat_lt (length rest) value ≡ false)
        → behind_blank value rest ≡ too_long → ⊥
    not_blank (inl few) is = let wrong = rw few at is in cc
    not_blank (inr enough) is = let wrong = rw enough at is in cc

long_takes_length : (bytes : List ℕ) → begins_length bytes ≡ true → counted_at bytes ≡ too_long → IsTooLong bytes
unfolding counted_at
long_takes_length bytes first e =
    let n = digits_len bytes in
    elim (within_or_beyond bytes) [
      | inl within ↦ absurd (not_behind_digits n (number_at bytes) (drop n bytes) (rw within.1 at e))
      | inr beyond ↦ long_length (take n bytes) (drop n bytes) (digits_here bytes first) beyond.0
          (sym (take-append-drop n bytes))
    ]

pub long_takes : (bytes : List ℕ) → step_at bytes ≡ too_long → IsTooLong bytes
unfolding step_at
long_takes [] e = absurd cc
long_takes (byte ∷ bytes) e =
    elim (cases_Bool (begins_length (byte ∷ bytes))) [
      | inl length ↦ long_takes_length (byte ∷ bytes) length (rw length at e)
      | inr line ↦ long_takes_line (byte ∷ bytes) line (rw line at e)
    ]

no_length_first : (line rest : List ℕ) → 0 < length line → begins_length line ≡ false
    → begins_length (line ++ rest) ≡ false
no_length_first [] rest some h = absurd (omega arith)
no_length_first (byte ∷ line) rest some h = h

pub long_again : (bytes : List ℕ) → IsTooLong bytes → step_at bytes ≡ too_long
unfolding counted_at line_at
long_again bytes (long_length digits more h beyond spelled) =
    let text = digits ++ more in
    let reach : length digits ≤ digits_len text = omega (arith, run_again is_ascii_digit digits more h.each) in
    let most = front-le-number text (length digits) reach in
    let same = take_at digits more (length digits) refl in
    ap step_at spelled
    ∙ step_counted text (begins_same digits more h.first)
    ∙ beyond_limit text (omega (arith, most, ap length_of same))
  where
    beyond_limit : (all : List ℕ) → frame_limit < number_at all → counted_at all ≡ too_long
    beyond_limit all over = elim (within_or_beyond all) [
      | inl within ↦ absurd (omega (arith, within.0))
      | inr out ↦ rw out.1 refl
    ]
long_again bytes (long_line line more h beyond spelled) =
    let text = line ++ more in
    let len = run_again is_no_feed line more h.each in
    ap step_at spelled
    ∙ step_line_some text (omega (arith, length-append line more)) (no_length_first line more (omega arith) h.first)
    ∙ rw (lt-ltb frame_limit (line_len text) (omega (arith, len))) refl

-- ---- more bytes after

pub bad_more : (bytes more : List ℕ) (place : ℕ) → HasBadLength bytes place → HasBadLength (bytes ++ more) place
bad_more bytes more place h = record {
  digits = h.digits;
  byte = h.byte;
  more = h.more ++ more;
  are_digits = h.are_digits;
  few = h.few;
  no_digit = h.no_digit;
  no_blank = h.no_blank;
  spelled = ap (λ (t : List ℕ). t ++ more) h.spelled ∙ append_assoc h.digits (h.byte ∷ h.more) more;
  place_is = h.place_is;
}

pub long_more : (bytes more : List ℕ) → IsTooLong bytes → IsTooLong (bytes ++ more)
long_more bytes more (long_length digits rest h beyond spelled) =
    long_length digits (rest ++ more) h beyond
    (ap (λ (t : List ℕ). t ++ more) spelled ∙ append_assoc digits rest more)
long_more bytes more (long_line line rest h beyond spelled) =
    long_line line (rest ++ more) h beyond
    (ap (λ (t : List ℕ). t ++ more) spelled ∙ append_assoc line rest more)
