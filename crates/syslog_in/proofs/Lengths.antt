-- What the loop over the digits of a length keeps.
use Rattle.std.proofs.Common.{◌≡◌, ℕ, ◌+◌, ◌-◌, ◌*◌, ◌<◌, ◌≤◌, true, false, List, length, get_or, take, Some}
use Rattle.std.proofs.Common.{None}
use Rattle.std.proofs.Common.{refl, sym, ap, arith, ◌∙◌, inl, inr, below_more}
use Rattle.std.specs.Char.{is_ascii_digit}
use Rattle.std.proofs.lemmas.Bool.{false≢true, lt-ltb, le-ltb, cases_lt}
use Rattle.std.proofs.lemmas.Int.Digits.{digits_value_more}
use Rattle.std.proofs.lemmas.Str.Parse.{digits_value-take-le}
use Rattle.std.proofs.lemmas.List.{take-take}
use Rattle.std.proofs.lemmas.List.Sums.{prefix_len_is, prefix_len_stops}
use Rattle.time_text.proofs.DigitLemmas.{digit_value_is}
use Rattle.syslog_in.specs.Framing.{frame_limit, length_of}
use Rattle.syslog_in.specs.Reading.{digits_len, number_at, length_at}

-- the first bytes are digits that say the number, which is within the limit
pub record AreRead (bytes : List ℕ) (len number : ℕ) : Type 0 where
  pub each : (k : ℕ) → k < len → is_ascii_digit (get_or bytes k 0) ≡ true
  pub value : number ≡ length_of (take len bytes)
  pub few : number ≤ frame_limit

pub one_more : (bytes : List ℕ) (len number next : ℕ) → AreRead bytes len number → len < length bytes
    → is_ascii_digit (get_or bytes len 0) ≡ true → next ≡ number * 10 + (get_or bytes len 0 - 48)
    → next ≡ length_of (take (len + 1) bytes)
one_more bytes len number next h within digit is =
    rw (digits_value_more 10 bytes len within, digit_value_is (get_or bytes len 0) digit, ← h.value) is

pub all_read : (bytes : List ℕ) (len number : ℕ) → AreRead bytes len number → len ≤ length bytes
    → (len < length bytes → is_ascii_digit (get_or bytes len 0) ≡ false)
    → Some (len, number) ≡ length_at bytes
unfolding length_at
all_read bytes len number h within stop =
    let here = prefix_len_is is_ascii_digit bytes len 0 within h.each stop in
    rw (here, ← h.value, le-ltb frame_limit number h.few) refl

pub digits_reach : (bytes : List ℕ) (len : ℕ) → len ≤ length bytes
    → ((k : ℕ) → k < len → is_ascii_digit (get_or bytes k 0) ≡ true) → len ≤ digits_len bytes
digits_reach bytes len within each =
    elim (cases_lt (digits_len bytes) len) [
      | inl before ↦ absurd (false≢true (sym (prefix_len_stops is_ascii_digit bytes 0 (omega arith))
          ∙ each (digits_len bytes) before))
      | inr reach ↦ reach
    ]

-- the first digits of a number are at most the number
pub front-le-number : (bytes : List ℕ) (len : ℕ) → len ≤ digits_len bytes → length_of (take len bytes) ≤ number_at bytes
front-le-number bytes len reach =
    let front = take-take len (digits_len bytes) bytes reach in
    let most = digits_value-take-le 10 (take (digits_len bytes) bytes) len (omega arith) in
    omega (arith, most, ap length_of front)

pub too_many : (bytes : List ℕ) (len number next : ℕ) → AreRead bytes len number → len < length bytes
    → is_ascii_digit (get_or bytes len 0) ≡ true → next ≡ number * 10 + (get_or bytes len 0 - 48)
    → frame_limit < next → None ≡ length_at bytes
unfolding length_at
too_many bytes len number next h within digit is beyond =
    let value = one_more bytes len number next h within digit is in
    let most = front-le-number bytes (len + 1) (digits_reach bytes (len + 1) (omega arith)
    (below_more _ _ h.each digit)) in
    rw (lt-ltb frame_limit (number_at bytes) (omega (arith, value, most))) refl
