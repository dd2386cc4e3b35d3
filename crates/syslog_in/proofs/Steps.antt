-- What stands at the start of bytes is read as it is spelled.
use Rattle.std.proofs.Common.{◌≡◌, ℕ, zero, suc, ◌+◌, ◌≤◌, ◌<◌, true, false, ◌==◌, nat_lt, List, [], ◌∷◌, ◌++◌}
use Rattle.std.proofs.Common.{length, take}
use Rattle.std.proofs.Common.{drop, Some, None, refl, sym, ap, arith, ◌∙◌, ◌⊎◌, inl, inr}
use Rattle.std.specs.Char.{is_ascii_digit}
use Rattle.std.proofs.Math.Numerals.{one-add}
use Rattle.std.proofs.lemmas.Bool.{cases_Bool, eqb-true, ltb-true, ltb-false, le-ltb}
use Rattle.std.proofs.lemmas.Bool.{cond-true}
use Rattle.std.proofs.lemmas.Bool.{false≢true, not-false}
use Rattle.std.proofs.lemmas.Bool.Decides.{nat_tests}
use Rattle.std.proofs.lemmas.List.{take-append-drop, append_assoc, length-append, take_at, drop_at}
use Rattle.std.proofs.lemmas.List.{length-take-le}
use Rattle.std.proofs.lemmas.List.Sums.{prefix_len-le-length}
use Rattle.syslog_in.specs.Framing.{frame_limit, Frame, counted, ended, begins_length, AreLengthDigits, length_of}
use Rattle.syslog_in.specs.Framing.{is_no_feed}
use Rattle.syslog_in.specs.Framing.{IsLine, IsCounted, IsEnded, IsFrame, source, without_return, message_of}
use Rattle.syslog_in.specs.Reading.{whole, digits_len, number_at, length_at}
use Rattle.syslog_in.specs.Reading.{behind_blank}
use Rattle.syslog_in.specs.Reading.{behind_digits, counted_at, line_len, behind_line, line_at, step_at}
use Rattle.syslog_in.proofs.Runs.{all_taken, stops, run_then}

-- ---- digits

pub first_is_digit : (byte : ℕ) (bytes : List ℕ) → begins_length (byte ∷ bytes) ≡ true → is_ascii_digit byte ≡ true
first_is_digit byte bytes h = grind (arith, nat_tests)

-- the digits at the start of bytes that begin as a length does
pub digits_here : (bytes : List ℕ) → begins_length bytes ≡ true → AreLengthDigits (take (digits_len bytes) bytes)
digits_here [] first = absurd (false≢true first)
digits_here (byte ∷ bytes) first =
    let digit = first_is_digit byte bytes first in
    record {
      first = rw (cond-true (is_ascii_digit byte) (1 + digits_len bytes) 0 digit, one-add (digits_len bytes)) first;
      each = all_taken is_ascii_digit (byte ∷ bytes);
    }

pub begins_same : (digits rest : List ℕ) → begins_length digits ≡ true → begins_length (digits ++ rest) ≡ true
begins_same [] rest h = absurd (false≢true h)
begins_same (byte ∷ digits) rest h = h

-- ---- bytes that begin with a length

record BehindDigits (digits value : ℕ) (rest message more : List ℕ) : Type 0 where
  spelled : rest ≡ 32 ∷ (message ++ more)
  value_is : value ≡ length message

behind_takes : (digits value : ℕ) (rest message more : List ℕ) → behind_digits digits value rest ≡ whole message more
    → BehindDigits digits value rest message more
behind_takes digits value [] message more e = absurd cc
behind_takes digits value (byte ∷ rest) message more e =
    elim (cases_Bool (byte == 32)) [
      | inl blank ↦ taken (eqb-true byte 32 blank) (cases_Bool (nat_lt (length rest) value)) (rw blank at e)
      | inr other ↦ let wrong = rw other at e in absurd cc
    ]
  where
    taken : byte ≡ 32 → (nat_lt (length rest) value ≡ true) ⊎ (nat_lt (length rest) value ≡ false)
        → behind_blank value rest ≡ whole message more → BehindDigits digits value (byte ∷ rest) message more
    taken blank (inl few) is = let wrong = rw few at is in absurd cc
    taken blank (inr enough) is =
        let same = rw enough at is in
        let front : take value rest ≡ message = cc in
        let back : drop value rest ≡ more = cc in
        record {
          spelled = rw (blank, ← front, ← back) (ap (λ (t : List ℕ). 32 ∷ t) (sym (take-append-drop value rest)));
          value_is = sym (sym (ap length front) ∙ length-take-le value rest (ltb-false (length rest) value enough));
        }

-- a whole frame at the start, and what follows it
pub record FrameAt (bytes message rest : List ℕ) : Type 0 where
  pub frame : Frame
  pub is_frame : IsFrame frame
  pub spelled : bytes ≡ source frame ++ rest
  pub message_is : message ≡ message_of frame

-- the two cases of a length
pub within_or_beyond : (bytes : List ℕ)
    → ((number_at bytes ≤ frame_limit) × (length_at bytes ≡ Some (digits_len bytes, number_at bytes)))
    ⊎ ((frame_limit < number_at bytes) × (length_at bytes ≡ None))
unfolding length_at
within_or_beyond bytes =
    elim (cases_Bool (nat_lt frame_limit (number_at bytes))) [
      | inl beyond ↦ inr (ltb-true frame_limit (number_at bytes) beyond, rw beyond refl)
      | inr within ↦ inl (ltb-false frame_limit (number_at bytes) within, rw within refl)
    ]

counted_takes : (bytes message rest : List ℕ) → begins_length bytes ≡ true → counted_at bytes ≡ whole message rest
    → FrameAt bytes message rest
unfolding counted_at
counted_takes bytes message rest first e =
    elim (within_or_beyond bytes) [
      | inl within ↦
          let behind = behind_takes (digits_len bytes) (number_at bytes) (drop (digits_len bytes) bytes) message rest
          (rw within.1 at e) in
          record {
            frame = counted (take (digits_len bytes) bytes) message;
            is_frame = record {
              are_digits = digits_here bytes first;
              value = behind.value_is;
              few = omega (arith, within.0, behind.value_is);
            };
            spelled = sym (take-append-drop (digits_len bytes) bytes)
                ∙ ap (λ (t : List ℕ). take (digits_len bytes) bytes ++ t) behind.spelled
                ∙ sym (append_assoc (take (digits_len bytes) bytes) (32 ∷ message) rest);
            message_is = refl;
          }
      | inr beyond ↦ let wrong = rw beyond.1 at e in absurd cc
    ]

-- ---- lines

behind_line_takes : (line behind message rest : List ℕ) → behind_line line behind ≡ whole message rest
    → (feed : ℕ) × (behind ≡ feed ∷ rest) × (message ≡ without_return line)
behind_line_takes line [] message rest e = absurd cc
behind_line_takes line (feed ∷ bytes) message rest e =
    let same : bytes ≡ rest = cc in
    let message_is : without_return line ≡ message = cc in
    (feed, ap (λ (t : List ℕ). feed ∷ t) same, sym message_is)

-- where no length begins, none begins with fewer bytes
begins_fewer : (n : ℕ) (bytes : List ℕ) → begins_length bytes ≡ false → begins_length (take n bytes) ≡ false
begins_fewer zero bytes h = refl
begins_fewer (suc n) [] h = refl
begins_fewer (suc n) (byte ∷ bytes) h = h

pub line_here : (bytes : List ℕ) → begins_length bytes ≡ false → IsLine (take (line_len bytes) bytes)
line_here bytes first = record {
  first = begins_fewer (line_len bytes) bytes first;
  each = all_taken is_no_feed bytes;
}

line_takes : (bytes message rest : List ℕ) → begins_length bytes ≡ false → line_at bytes ≡ whole message rest
    → FrameAt bytes message rest
unfolding line_at
line_takes bytes message rest first e =
    let n = line_len bytes in
    elim (cases_Bool (nat_lt frame_limit n)) [
      | inl beyond ↦ let wrong = rw beyond at e in absurd cc
      | inr within ↦
          let behind = behind_line_takes (take n bytes) (drop n bytes) message rest (rw within at e) in
          let feed : behind.0 ≡ 10 = eqb-true behind.0 10
          (not-false (behind.0 == 10) (stops is_no_feed bytes rest behind.0 behind.1)) in
          record {
            frame = ended (take n bytes);
            is_frame = record {
              is_line = line_here bytes first;
              few = omega (
                arith,
                ltb-false frame_limit n within,
                length-take-le n bytes (prefix_len-le-length is_no_feed bytes),
              );
            };
            spelled = sym (take-append-drop n bytes)
                ∙ ap (λ (t : List ℕ). take n bytes ++ t) (behind.1 ∙ ap (λ (c : ℕ). c ∷ rest) feed)
                ∙ sym (append_assoc (take n bytes) (10 ∷ []) rest);
            message_is = behind.2;
          }
    ]

pub whole_takes : (bytes message rest : List ℕ) → step_at bytes ≡ whole message rest → FrameAt bytes message rest
unfolding step_at
whole_takes [] message rest e = absurd cc
whole_takes (byte ∷ bytes) message rest e =
    elim (cases_Bool (begins_length (byte ∷ bytes))) [
      | inl length ↦ counted_takes (byte ∷ bytes) message rest length (rw length at e)
      | inr line ↦ line_takes (byte ∷ bytes) message rest line (rw line at e)
    ]

-- ---- frames are read again

-- digits of a length, and after them no digit
pub length_again : (digits rest : List ℕ) → AreLengthDigits digits → digits_len (digits ++ rest) ≡ length digits
    → length_of digits ≤ frame_limit
    → length_at (digits ++ rest) ≡ Some (length digits, length_of digits)
unfolding length_at
length_again digits rest h len few =
    rw (len, take_at digits rest (length digits) refl, le-ltb frame_limit (length_of digits) few) refl

blank_again : (value : ℕ) (message rest : List ℕ) → value ≡ length message
    → behind_blank value (message ++ rest) ≡ whole message rest
blank_again value message rest is =
    rw (
      is,
      le-ltb (length (message ++ rest)) (length message) (omega (arith, length-append message rest)),
      take_at message rest (length message) refl,
      drop_at message rest (length message) refl,
    ) refl

counted_again : (digits message rest : List ℕ) → IsCounted digits message
    → counted_at (digits ++ 32 ∷ (message ++ rest)) ≡ whole message rest
unfolding counted_at
counted_again digits message rest h =
    let len = run_then is_ascii_digit digits (message ++ rest) 32 h.are_digits.each refl in
    rw (
      length_again digits (32 ∷ (message ++ rest)) h.are_digits len (omega (arith, h.value, h.few)),
      drop_at digits (32 ∷ (message ++ rest)) (length digits) refl,
    ) (blank_again (length_of digits) message rest h.value)

line_again : (line rest : List ℕ) → IsEnded line → line_at (line ++ 10 ∷ rest) ≡ whole (without_return line) rest
unfolding line_at
line_again line rest h =
    let len = run_then is_no_feed line rest 10 h.is_line.each refl in
    rw (
      len,
      le-ltb frame_limit (length line) h.few,
      take_at line (10 ∷ rest) (length line) refl,
      drop_at line (10 ∷ rest) (length line) refl,
    ) refl

no_length_before : (line rest : List ℕ) → IsLine line → begins_length (line ++ 10 ∷ rest) ≡ false
no_length_before [] rest h = refl
no_length_before (byte ∷ line) rest h = h.first

pub step_counted : (bytes : List ℕ) → begins_length bytes ≡ true → step_at bytes ≡ counted_at bytes
unfolding step_at
step_counted [] h = absurd (false≢true h)
step_counted (byte ∷ bytes) h = rw h refl

step_line : (byte : ℕ) (bytes : List ℕ) → begins_length (byte ∷ bytes) ≡ false
    → step_at (byte ∷ bytes) ≡ line_at (byte ∷ bytes)
unfolding step_at
step_line byte bytes h = rw h refl

pub step_line_some : (bytes : List ℕ) → 0 < length bytes → begins_length bytes ≡ false → step_at bytes ≡ line_at bytes
step_line_some [] some h = absurd (omega arith)
step_line_some (byte ∷ bytes) some h = step_line byte bytes h

pub whole_again : (frame : Frame) (rest : List ℕ) → IsFrame frame
    → step_at (source frame ++ rest) ≡ whole (message_of frame) rest
whole_again (counted digits message) rest h =
    ap step_at (append_assoc digits (32 ∷ message) rest)
    ∙ step_counted _ (begins_same digits (32 ∷ (message ++ rest)) h.are_digits.first)
    ∙ counted_again digits message rest h
whole_again (ended line) rest h =
    ap step_at (append_assoc line (10 ∷ []) rest)
    ∙ step_line_some _ (omega (arith, length-append line (10 ∷ rest))) (no_length_before line rest h.is_line)
    ∙ line_again line rest h
