-- What a framer has taken, and what is left of it.
use Rattle.std.proofs.Common.{◌≡◌, ℕ, ◌+◌, ◌-◌, ◌≤◌, ◌<◌, true, false, ◌==◌, nat_lt, nat_le, ◌*◌, List, [], ◌∷◌, ◌++◌}
use Rattle.std.proofs.Common.{length, take, drop}
use Rattle.std.proofs.Common.{None, refl, sym, ap, subst, arith, ◌∙◌, inl, inr, ◌⊎◌, replicate}
use Rattle.std.specs.Char.{digit_value}
use Rattle.std.proofs.lemmas.Bool.{cases_Bool, ltb-true, ltb-false, eqb-true, and_parts, leb-true, false≢true, cases_lt}
use Rattle.std.proofs.lemmas.Bool.Decides.{nat_tests}
use Rattle.std.proofs.lemmas.Int.Digits.{digits_value_more}
use Rattle.std.proofs.lemmas.Str.Parse.{digits_value-take-le}
use Rattle.time_text.proofs.DigitLemmas.{digit_value_is}
use Rattle.std.proofs.lemmas.List.{take-append-drop, append_assoc, append-nil, length-append, length-take-le}
use Rattle.std.proofs.lemmas.List.{length-replicate}
use Rattle.std.proofs.lemmas.List.Sums.{prefix_len-le-length}
use Rattle.syslog_in.specs.Framing.{AreApart}
use Rattle.syslog_in.specs.Framing.{frame_limit, Frame, counted, ended, IsFrame, source, message_of, begins_length}
use Rattle.syslog_in.specs.Framing.{AreLengthDigits, length_of, AreFrames}
use Rattle.syslog_in.specs.Framing.{BeginsWithNone, CanGoOn, BeginsWithFrames}
use Rattle.syslog_in.specs.Framer.{Framing, HasTaken, Completes, place}
use Rattle.syslog_in.specs.Reading.{Step, whole, short, bad_length, too_long, digits_len, number_at, counted_at}
use Rattle.syslog_in.specs.Reading.{line_len, is_short}
use Rattle.syslog_in.specs.Reading.{behind_blank, behind_digits, behind_line, line_at, step_at, why_step, Reads}
use Rattle.syslog_in.specs.declared.reach.Stop.{Stop}
use Rattle.syslog_in.specs.declared.reach.Why.TheVariants as reasons
use Rattle.syslog_in.proofs.Steps.{within_or_beyond, digits_here, line_here, whole_takes, whole_again}
use Rattle.syslog_in.proofs.Stops.{bad_takes, bad_again, bad_more, long_takes, long_again, long_more}
use Rattle.syslog_in.proofs.Streams.{none_from_step, more_frames, frames_behind, no_frames, rest_fits}

-- ---- what can go on

short_behind : (digits value : ℕ) (rest : List ℕ) → behind_digits digits value rest ≡ short
    → (rest ≡ []) ⊎ ((more : List ℕ) × (rest ≡ 32 ∷ more) × (length more < value))
short_behind digits value [] e = inl refl
short_behind digits value (byte ∷ rest) e =
    elim (cases_Bool (byte == 32)) [
      | inl blank ↦ few (cases_Bool (nat_lt (length rest) value)) (eqb-true byte 32 blank) (rw blank at e)
      | inr other ↦ let wrong = rw other at e in absurd cc
    ]
  where
    few : (nat_lt (length rest) value ≡ true) ⊎ (nat_lt (length rest) value ≡ false) → byte ≡ 32
        → behind_blank value rest ≡ short
        → (byte ∷ rest ≡ []) ⊎ ((more : List ℕ) × (byte ∷ rest ≡ 32 ∷ more) × (length more < value))
    few (inl less) blank is = inr (rest, ap (λ (c : ℕ). c ∷ rest) blank, ltb-true (length rest) value less)
    few (inr enough) blank is = let wrong = rw enough at is in absurd cc

-- a length, or a length and a part of its message
length_goes_on : (bytes digits behind : List ℕ) → bytes ≡ digits ++ behind → AreLengthDigits digits
    → length_of digits ≤ frame_limit
    → (behind ≡ []) ⊎ ((more : List ℕ) × (behind ≡ 32 ∷ more) × (length more < length_of digits)) → CanGoOn bytes
length_goes_on bytes digits behind parts are few (inl none) =
    let message = replicate (length_of digits) 0 in
    record {
      frame = counted digits message;
      is_frame = record {
        are_digits = are;
        value = sym (length-replicate (length_of digits) 0);
        few = omega (arith, length-replicate {A = ℕ} (length_of digits) 0);
      };
      more = 32 ∷ message;
      some = omega arith;
      spelled = ap (λ (t : List ℕ). t ++ 32 ∷ message) (parts ∙ ap (λ (t : List ℕ). digits ++ t) none
          ∙ append-nil digits);
    }
length_goes_on bytes digits behind parts are few (inr some) =
    let missing = length_of digits - length some.0 in
    let more = replicate missing 0 in
    let count : length_of digits ≡ length (some.0 ++ more) =
    omega (arith, length-append some.0 more, length-replicate {A = ℕ} missing 0, some.2) in
    record {
      frame = counted digits (some.0 ++ more);
      is_frame = record { are_digits = are; value = count; few = omega (arith, count) };
      more = more;
      some = omega (arith, length-replicate {A = ℕ} missing 0, some.2);
      spelled = ap (λ (t : List ℕ). t ++ more) (parts ∙ ap (λ (t : List ℕ). digits ++ t) some.1)
          ∙ append_assoc digits (32 ∷ some.0) more;
    }

counted_goes_on : (bytes : List ℕ) → begins_length bytes ≡ true → counted_at bytes ≡ short → CanGoOn bytes
unfolding counted_at
counted_goes_on bytes first e =
    let n = digits_len bytes in
    elim (within_or_beyond bytes) [
      | inl within ↦ length_goes_on bytes (take n bytes) (drop n bytes) (sym (take-append-drop n bytes))
          (digits_here bytes first) within.0 (short_behind n (number_at bytes) (drop n bytes) (rw within.1 at e))
      | inr beyond ↦ let wrong = rw beyond.1 at e in absurd cc
    ]

nothing_behind : (line behind : List ℕ) → behind_line line behind ≡ short → behind ≡ []
nothing_behind line [] e = refl
nothing_behind line (feed ∷ rest) e = absurd cc

line_goes_on : (bytes : List ℕ) → begins_length bytes ≡ false → line_at bytes ≡ short → CanGoOn bytes
unfolding line_at
line_goes_on bytes first e =
    let n = line_len bytes in
    elim (cases_Bool (nat_lt frame_limit n)) [
      | inl beyond ↦ let wrong = rw beyond at e in absurd cc
      | inr within ↦
          let none = nothing_behind (take n bytes) (drop n bytes) (rw within at e) in
          let all : bytes ≡ take n bytes = sym (take-append-drop n bytes)
          ∙ ap (λ (t : List ℕ). take n bytes ++ t) none ∙ append-nil (take n bytes) in
          let is_no_feed_run = prefix_len-le-length _ bytes in
          record {
            frame = ended (take n bytes);
            is_frame = record {
              is_line = line_here bytes first;
              few = omega (arith, ltb-false frame_limit n within, length-take-le n bytes is_no_feed_run);
            };
            more = 10 ∷ [];
            some = omega arith;
            spelled = ap (λ (t : List ℕ). t ++ 10 ∷ []) all;
          }
    ]

pub goes_on : (bytes : List ℕ) → step_at bytes ≡ short → CanGoOn bytes
unfolding step_at
goes_on [] e = record {
  frame = ended [];
  is_frame = record { is_line = record { first = refl; each = refl }; few = omega arith };
  more = 10 ∷ [];
  some = omega arith;
  spelled = refl;
}
goes_on (byte ∷ bytes) e =
    elim (cases_Bool (begins_length (byte ∷ bytes))) [
      | inl length ↦ counted_goes_on (byte ∷ bytes) length (rw length at e)
      | inr line ↦ line_goes_on (byte ∷ bytes) line (rw line at e)
    ]

pub is_short_from : (step : Step) → step ≡ short → is_short step ≡ true
is_short_from step e = ap is_short e

pub from_is_short : (step : Step) → is_short step ≡ true → step ≡ short
from_is_short (whole message rest) e = absurd cc
from_is_short short e = refl
from_is_short (bad_length place) e = absurd cc
from_is_short too_long e = absurd cc

pub nothing_short : step_at [] ≡ short
unfolding step_at
nothing_short = refl

no_whole : (why : Step) (message more : List ℕ) → (why ≡ whole message more → ⊥) → (step : Step) → step ≡ why
    → step ≡ whole message more → ⊥
no_whole why message more other step is same = other (sym is ∙ same)

-- a reason is not a frame
reason_none : (stop : Stop) (rest : List ℕ) → step_at rest ≡ why_step stop.why → BeginsWithNone rest
reason_none stop rest e = none_from_step rest (λ message more same. by_reason stop.why message more (sym e ∙ same))
  where
    by_reason : (why : reasons.the_data) (message more : List ℕ) → why_step why ≡ whole message more → ⊥
    by_reason reasons.Short message more same = cc
    by_reason (reasons.BadLength place) message more same = cc
    by_reason reasons.TooLong message more same = cc

pub nothing_taken : (framer : Framing) → framer.start ≡ 0 → framer.rest ≡ [] → framer.end ≡ None → HasTaken framer []
nothing_taken framer start rest end = record {
  messages = [];
  frames = record {
    frames = subst (λ (t : List ℕ). BeginsWithFrames [] [] t) (sym rest) (no_frames []);
    none = subst BeginsWithNone (sym rest) (none_from_step [] (λ message more e. let s = nothing_short in cc));
  };
  goes_on = goes_on framer.rest (ap step_at rest ∙ nothing_short);
  start = omega (arith, start);
  running = end;
}

is_after : (framer : Framing) (fed piece : List ℕ) (old new : List (List ℕ)) (rest : List ℕ) (stop : Stop)
    (h : HasTaken framer fed) (r : Reads (framer.rest ++ piece) old new rest stop)
    → AreFrames (fed ++ piece) (h.messages ++ r.messages) rest
is_after framer fed piece old new rest stop h r = record {
  frames = more_frames (fed ++ piece) (framer.rest ++ piece) rest h.messages r.messages
      (frames_behind fed framer.rest piece h.messages h.frames.frames) r.frames;
  none = reason_none stop rest r.why;
}

-- what a piece adds
pub completed : (framer : Framing) (fed piece : List ℕ) (old new : List (List ℕ)) (rest : List ℕ) (stop : Stop)
    → HasTaken framer fed → Reads (framer.rest ++ piece) old new rest stop → Completes fed piece old new rest
completed framer fed piece old new rest stop h r = record {
  before = h.messages;
  more = r.messages;
  left = framer.rest;
  is_before = h.frames;
  is_after = is_after framer fed piece old new rest stop h r;
  given = r.given;
}

pub start_later : (framer : Framing) (fed piece : List ℕ) (old new : List (List ℕ)) (rest : List ℕ) (stop : Stop)
    (start : ℕ) → HasTaken framer fed → Reads (framer.rest ++ piece) old new rest stop
    → start ≡ place (framer.start + stop.passed) → start ≡ place (length (fed ++ piece) - length rest)
start_later framer fed piece old new rest stop start h r is =
    omega (
      arith,
      is,
      h.start,
      r.passed,
      rest_fits fed framer.rest h.messages h.frames.frames,
      rest_fits (framer.rest ++ piece) rest r.messages r.frames,
      length-append fed piece,
      length-append framer.rest piece,
    )

pub taken_more : (framer next : Framing) (fed piece : List ℕ) (old new : List (List ℕ)) (rest : List ℕ) (stop : Stop)
    → HasTaken framer fed → Reads (framer.rest ++ piece) old new rest stop → stop.why ≡ reasons.Short
    → next.rest ≡ rest → next.start ≡ place (framer.start + stop.passed) → next.end ≡ None
    → HasTaken next (fed ++ piece)
taken_more framer next fed piece old new rest stop h r why rest_is start_is end_is =
    let all = is_after framer fed piece old new rest stop h r in
    record {
      messages = h.messages ++ r.messages;
      frames = subst (λ (t : List ℕ). AreFrames (fed ++ piece) (h.messages ++ r.messages) t) (sym rest_is) all;
      goes_on = goes_on next.rest (ap step_at rest_is ∙ r.why ∙ ap why_step why);
      start = start_later framer fed piece old new rest stop next.start h r start_is
          ∙ ap (λ (t : List ℕ). place (length (fed ++ piece) - length t)) (sym rest_is);
      running = end_is;
    }

-- ---- how much is kept

-- one digit more makes ten times as much
grows : (digits : List ℕ) (n low : ℕ) → n < length digits → low ≤ length_of (take n digits)
    → low * 10 ≤ length_of (take (n + 1) digits)
grows digits n low within least = omega (arith, digits_value_more 10 digits n within)

first_counts : (digits : List ℕ) → begins_length digits ≡ true → 1 ≤ length_of (take 1 digits)
first_counts [] h = absurd (false≢true h)
first_counts (byte ∷ digits) h =
    let parts = and_parts (nat_le 49 byte) (nat_le byte 57) h in
    let low = leb-true 49 byte parts.0 in
    let high = leb-true byte 57 parts.1 in
    let value = digits_value_more 10 (byte ∷ digits) 0 (omega arith) in
    let digit : digit_value byte ≡ byte - 48 = digit_value_is byte (grind (arith, nat_tests)) in
    omega (arith, value, digit, low)

digits_short : (digits : List ℕ) → AreLengthDigits digits → length_of digits ≤ frame_limit → length digits ≤ 5
digits_short digits h few =
    elim (cases_lt 5 (length digits)) [
      | inl long ↦
          let one = first_counts digits h.first in
          let two = grows digits 1 1 (omega arith) one in
          let three = grows digits 2 10 (omega arith) two in
          let four = grows digits 3 100 (omega arith) three in
          let five = grows digits 4 1000 (omega arith) four in
          let six = grows digits 5 10_000 (omega arith) five in
          absurd (omega (arith, six, digits_value-take-le 10 digits 6 (omega arith)))
      | inr short_is ↦ short_is
    ]

pub kept_short : (rest : List ℕ) → CanGoOn rest → length rest ≤ 65_541
kept_short rest h = by_frame h.frame h.is_frame (omega (
  arith,
  sym (length-append rest h.more)
      ∙ ap length h.spelled,
  h.some,
))
  where
    by_frame : (frame : Frame) → IsFrame frame → length rest < length (source frame) → length rest ≤ 65_541
    by_frame (counted digits message) is less =
        omega (
          arith,
          less,
          length-append digits (32 ∷ message),
          digits_short digits is.are_digits (omega (arith, is.value, is.few)),
          is.few,
        )
    by_frame (ended line) is less = omega (arith, less, length-append line (10 ∷ []), is.few)

-- what can go on is not a frame and not at fault
pub goes_on_again : (rest : List ℕ) → CanGoOn rest → step_at rest ≡ short
goes_on_again rest h = by_step (step_at rest) refl
  where
    frame_is : step_at (rest ++ h.more) ≡ whole (message_of h.frame) []
    frame_is = ap step_at (h.spelled ∙ sym (append-nil (source h.frame))) ∙ whole_again h.frame [] h.is_frame

    by_step : (step : Step) → step_at rest ≡ step → step ≡ short
    by_step short e = refl
    by_step (whole message after) e =
        let at = whole_takes rest message after e in
        let longer = ap (λ (t : List ℕ). t ++ h.more) at.spelled ∙ append_assoc (source at.frame) after h.more in
        let again = ap step_at longer ∙ whole_again at.frame (after ++ h.more) at.is_frame in
        let same = sym again ∙ frame_is in
        let none : after ++ h.more ≡ [] = cc in
        absurd (omega (arith, ap length none, length-append after h.more, h.some))
    by_step (bad_length at) e =
        let bad = bad_again (rest ++ h.more) at (bad_more rest h.more at (bad_takes rest at e)) in
        let wrong = sym bad ∙ frame_is in absurd cc
    by_step too_long e =
        let long = long_again (rest ++ h.more) (long_more rest h.more (long_takes rest e)) in
        let wrong = sym long ∙ frame_is in absurd cc

pub are_apart : (rest : List ℕ) → AreApart rest
are_apart rest = record {
  bad_length = λ open_is place bad. (let e = sym (goes_on_again rest open_is) ∙ bad_again rest place bad in cc);
  too_long = λ open_is long. (let e = sym (goes_on_again rest open_is) ∙ long_again rest long in cc);
  not_both = λ place bad long. (let e = sym (bad_again rest place bad) ∙ long_again rest long in cc);
  one_place = λ place other bad bad₂. (let e = sym (bad_again rest place bad) ∙ bad_again rest other bad₂ in cc);
}
