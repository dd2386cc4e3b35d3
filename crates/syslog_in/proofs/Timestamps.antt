-- Timestamps by the bytes that tell them from other texts of moments.
use Rattle.std.proofs.Common.{◌≡◌, ℕ, ◌+◌, ◌-◌, ◌/◌, ◌%◌, ◌≤◌, ◌<◌, Bool, true, ◌||◌, ◌==◌}
use Rattle.std.proofs.Common.{nat_le, nat_lt}
use Rattle.std.proofs.Common.{List, [], ◌∷◌, ◌++◌, length, get_or, ℤ, Option, Some, None, refl, sym, ap}
use Rattle.std.proofs.Common.{subst, arith, ◌∙◌, inl, inr, ◌⊎◌}
use Rattle.std.specs.Prelude.{slice_index}
use Rattle.std.specs.Char.{is_ascii_digit}
use Rattle.std.specs.List.{list_all}
use Rattle.std.specs.Str.{all_ascii_digits}
use Rattle.std.proofs.lemmas.Bool.{and_parts, and_from, or_cases, or_left, or_right, eqb-true, eq-eqb}
use Rattle.std.proofs.lemmas.Bool.{le-leb}
use Rattle.std.proofs.lemmas.Bool.{ltb-true, lt-ltb, false≢true, cases_Bool}
use Rattle.std.proofs.lemmas.Bool.Decides.{nat_tests}
use Rattle.std.proofs.lemmas.List.{append_assoc, length-append, get_or-append_right, get_or_append_left}
use Rattle.std.proofs.lemmas.List.Folds.{list_all-append, list_all_at}
use Rattle.log_model.specs.Moment.{Date, date_text, two_digits, days_in_month}
use Rattle.log_model.specs.MomentText.{IsFraction, IsDate, IsDateTime, IsMomentInRange, SpellsMoment}
use Rattle.log_model.specs.MomentText.{counted, in_seconds}
use Rattle.log_model.specs.MomentText.{dated, Offset, omitted, zulu, small_zulu, ahead, behind, IsOffset, offset_text}
use Rattle.log_model.specs.MomentText.{hours_text}
use Rattle.syslog_in.specs.Message.{is_visible, IsStated, IsTimestamp, IsTime, nil}
use Rattle.syslog_in.specs.Parts.{Stands, IsPart, timestamp}
use Rattle.syslog_in.proofs.Standing.{stands_here, stands_only, visible_no_blanks}
use Rattle.syslog_in.specs.DataReading.{ends_with_zulu, is_sign, ends_with_hours, ends_with_offset, has_form}
use Rattle.syslog_in.specs.DataReading.{is_no_blank, first_part, behind_part}

-- ---- bytes

abbrev pub is_clock_byte : ℕ → Bool
is_clock_byte byte = is_ascii_digit byte || ((byte == 58) || (byte == 46))

two_clock : (n : ℕ) → n < 100 → list_all is_clock_byte (two_digits n) ≡ true
two_clock n h =
    let tens : is_ascii_digit (48 + n / 10) ≡ true = grind (arith, nat_tests) in
    let ones : is_ascii_digit (48 + n % 10) ≡ true = grind (arith, nat_tests) in
    and_from _ _ (or_left _ _ tens) (and_from _ _ (or_left _ _ ones) refl)

digits_clock : (bytes : List ℕ) → all_ascii_digits bytes ≡ true → list_all is_clock_byte bytes ≡ true
digits_clock [] h = refl
digits_clock (byte ∷ bytes) h =
    let parts = and_parts (is_ascii_digit byte) _ h in
    and_from _ _ (or_left _ _ parts.0) (digits_clock bytes parts.1)

clock_visible : (byte : ℕ) → is_clock_byte byte ≡ true → is_visible byte ≡ true
clock_visible byte h = grind (arith, nat_tests)

all_clock_visible : (bytes : List ℕ) → list_all is_clock_byte bytes ≡ true → list_all is_visible bytes ≡ true
all_clock_visible [] h = refl
all_clock_visible (byte ∷ bytes) h =
    let parts = and_parts (is_clock_byte byte) _ h in
    and_from _ _ (clock_visible byte parts.0) (all_clock_visible bytes parts.1)

both : (test : ℕ → Bool) (front back : List ℕ) → list_all test front ≡ true → list_all test back ≡ true
    → list_all test (front ++ back) ≡ true
both test front back f b = list_all-append test front back ∙ and_from _ _ f b

fraction_clock : (fraction : List ℕ) (nanos : ℕ) → ((fraction ≡ []) × (nanos ≡ 0)) ⊎ IsFraction fraction nanos
    → list_all is_clock_byte fraction ≡ true
fraction_clock fraction nanos (inl none) = ap (list_all is_clock_byte) none.0
fraction_clock fraction nanos (inr f) =
    ap (list_all is_clock_byte) f.spelled
    ∙ and_from true (list_all is_clock_byte f.places) refl (digits_clock f.places f.digits.each)

-- what stands after the mark, up to the offset
abbrev clock_of : (text : List ℕ) (moment : ℤ) → IsDateTime text moment → List ℕ
clock_of text moment d =
    two_digits d.hour ++ (58 ∷ (two_digits d.minute ++ (58 ∷ (two_digits d.second ++ d.fraction))))

all_clock : (text : List ℕ) (moment : ℤ) (d : IsDateTime text moment)
    → list_all is_clock_byte (clock_of text moment d) ≡ true
all_clock text moment d =
    let seconds = two_digits d.second ++ d.fraction in
    let minutes = two_digits d.minute ++ 58 ∷ seconds in
    let hours : list_all is_clock_byte (two_digits d.hour) ≡ true = two_clock d.hour (omega (arith, d.is_time.0)) in
    let minute : list_all is_clock_byte (two_digits d.minute) ≡ true = two_clock d.minute (omega
    (arith, d.is_time.1)) in
    let second : list_all is_clock_byte (two_digits d.second) ≡ true = two_clock d.second (omega
    (arith, d.is_time.2)) in
    both is_clock_byte (two_digits d.hour) (58 ∷ minutes) hours
    (and_from true (list_all is_clock_byte minutes) refl (both is_clock_byte (two_digits d.minute) (58 ∷ seconds) minute
    (and_from true (list_all is_clock_byte seconds) refl (both is_clock_byte (two_digits d.second) d.fraction second
    (fraction_clock d.fraction d.nanos d.is_fraction)))))

abbrev front_of : (text : List ℕ) (moment : ℤ) → IsDateTime text moment → List ℕ
front_of text moment d = date_text d.date ++ d.mark ∷ []

-- the text is its front, the clock and the offset
parts_of : (text : List ℕ) (moment : ℤ) (d : IsDateTime text moment)
    → text ≡ (front_of text moment d ++ clock_of text moment d) ++ offset_text d.offset
parts_of text moment d =
    d.spelled ∙ simp append_assoc

long_clock : (text : List ℕ) (moment : ℤ) (d : IsDateTime text moment) → 8 ≤ length (clock_of text moment d)
long_clock text moment d = omega arith

-- ---- the last bytes

-- the byte so far from the end is one of the clock where the offset is shorter
in_clock : (text : List ℕ) (moment : ℤ) (d : IsDateTime text moment) (back : ℕ) → length (offset_text d.offset) < back
    → back ≤ 6 → is_clock_byte (slice_index text (length text - back)) ≡ true
in_clock text moment d back beyond near =
    let clock = clock_of text moment d in
    let front = front_of text moment d in
    let offset = offset_text d.offset in
    let whole = parts_of text moment d in
    let long = long_clock text moment d in
    let count : length text ≡ 11 + length clock + length offset =
    ap length whole ∙ omega (arith, length-append (front ++ clock) offset, length-append front clock) in
    let place : length text - back < length (front ++ clock) = omega (arith, count, length-append front clock) in
    let at : slice_index text (length text - back) ≡ get_or clock (length text - back - 11) 0 =
    ap (λ (t : List ℕ). get_or t (length text - back) 0) whole
    ∙ get_or_append_left (front ++ clock) offset 0 (length text - back) place
    ∙ get_or-append_right front clock 11 (length text - back) 0 refl (omega (arith, count)) in
    let within : length text - back - 11 < length clock = omega (arith, count) in
    ap is_clock_byte at ∙ each clock (length text - back - 11) within (all_clock text moment d)
  where
    each : (bytes : List ℕ) (i : ℕ) → i < length bytes → list_all is_clock_byte bytes ≡ true
        → is_clock_byte (get_or bytes i 0) ≡ true
    each bytes i within all = elim (cases_Bool (is_clock_byte (get_or bytes i 0))) [
      | inl good ↦ good
      | inr other ↦ absurd (false≢true (sym (list_all_at is_clock_byte bytes i 0 within other) ∙ all))
    ]

-- the byte so far from the end is one of the offset
in_offset : (text : List ℕ) (moment : ℤ) (d : IsDateTime text moment) (back : ℕ)
    → 0 < back → back ≤ length (offset_text d.offset)
    → slice_index text (length text - back)
    ≡ get_or (offset_text d.offset) (length (offset_text d.offset) - back) 0
in_offset text moment d back some near =
    let clock = clock_of text moment d in
    let front = front_of text moment d in
    let offset = offset_text d.offset in
    let whole = parts_of text moment d in
    let count : length text ≡ length (front ++ clock) + length offset =
    ap length whole ∙ length-append (front ++ clock) offset in
    let place : length text - back - length (front ++ clock) ≡ length offset - back = omega (arith, count) in
    ap (λ (t : List ℕ). get_or t (length text - back) 0) whole
    ∙ get_or-append_right (front ++ clock) offset (length (front ++ clock)) (length text - back) 0 refl (omega
    (arith, count))
    ∙ ap (λ (k : ℕ). get_or offset k 0) place

no_sign : (byte : ℕ) → is_clock_byte byte ≡ true → is_sign byte ≡ true → ⊥
no_sign byte h sign = grind (arith, nat_tests)

no_zulu : (byte : ℕ) → is_clock_byte byte ≡ true → byte == 90 ≡ true → ⊥
no_zulu byte h z = grind (arith, nat_tests)

zulu_last : (text : List ℕ) → ends_with_zulu text ≡ true → slice_index text (length text - 1) ≡ 90
zulu_last text h =
    eqb-true (slice_index text (length text - 1)) 90
    (and_parts (nat_le 1 (length text)) (slice_index text (length text - 1) == 90) h).1

not_zulu : (text : List ℕ) → ends_with_zulu text ≡ true → is_clock_byte (slice_index text (length text - 1)) ≡ true → ⊥
not_zulu text h clock =
    no_zulu (slice_index text (length text - 1)) clock
    (and_parts (nat_le 1 (length text)) (slice_index text (length text - 1) == 90) h).1

not_hours : (text : List ℕ) → ends_with_hours text ≡ true → is_clock_byte (slice_index text (length text - 6)) ≡ true
    → ⊥
not_hours text h clock =
    no_sign (slice_index text (length text - 6)) clock
    (and_parts (nat_le 6 (length text)) (is_sign (slice_index text (length text - 6))) h).1

-- no offset stands where the offset is omitted or small
stated : (text : List ℕ) (moment : ℤ) (d : IsDateTime text moment) (o : Offset) → d.offset ≡ o
    → ends_with_offset text ≡ true → IsStated o
stated text moment d omitted same ends =
    let none = ap (λ (x : Offset). length (offset_text x)) same in
    elim (or_cases (ends_with_zulu text) (ends_with_hours text) ends) [
      | inl z ↦ not_zulu text z (in_clock text moment d 1 (omega (arith, none)) (omega arith))
      | inr sign ↦ not_hours text sign (in_clock text moment d 6 (omega (arith, none)) (omega arith))
    ]
stated text moment d zulu same ends = tt
stated text moment d small_zulu same ends =
    let one = ap (λ (x : Offset). length (offset_text x)) same in
    elim (or_cases (ends_with_zulu text) (ends_with_hours text) ends) [
      | inl z ↦
          let last = in_offset text moment d 1 (omega arith) (omega (arith, one)) in
          let byte : get_or (offset_text d.offset) (length (offset_text d.offset) - 1) 0 ≡ 122 =
          ap (λ (x : Offset). get_or (offset_text x) (length (offset_text x) - 1) 0) same in
          absurd (omega (arith, last, byte, zulu_last text z))
      | inr sign ↦ not_hours text sign (in_clock text moment d 6 (omega (arith, one)) (omega arith))
    ]
stated text moment d (ahead hours minutes) same ends = tt
stated text moment d (behind hours minutes) same ends = tt

ends : (text : List ℕ) (moment : ℤ) (d : IsDateTime text moment) (o : Offset) → d.offset ≡ o → IsStated o
    → ends_with_offset text ≡ true
ends text moment d omitted same is = absurd is
ends text moment d zulu same is =
    let one = ap (λ (x : Offset). length (offset_text x)) same in
    let last = in_offset text moment d 1 (omega arith) (omega (arith, one)) in
    let byte : get_or (offset_text d.offset) (length (offset_text d.offset) - 1) 0 ≡ 90 =
    ap (λ (x : Offset). get_or (offset_text x) (length (offset_text x) - 1) 0) same in
    let some : 1 ≤ length text = omega (arith, size text moment d) in
    or_left _ _ (and_from _ _ (le-leb 1 (length text) some) (eq-eqb _ 90 (last ∙ byte)))
  where
    size : (t : List ℕ) (m : ℤ) (x : IsDateTime t m) → 19 ≤ length t
    size t m x = omega (arith, ap length x.spelled)
ends text moment d small_zulu same is = absurd is
ends text moment d (ahead hours minutes) same is =
    let six = ap (λ (x : Offset). length (offset_text x)) same in
    let last = in_offset text moment d 6 (omega arith) (omega (arith, six)) in
    let byte : get_or (offset_text d.offset) (length (offset_text d.offset) - 6) 0 ≡ 43 =
    ap (λ (x : Offset). get_or (offset_text x) (length (offset_text x) - 6) 0) same in
    let some : 6 ≤ length text = omega (arith, ap length d.spelled) in
    or_right _ _ (and_from _ _ (le-leb 6 (length text) some) (or_left _ _ (eq-eqb _ 43 (last ∙ byte))))
ends text moment d (behind hours minutes) same is =
    let six = ap (λ (x : Offset). length (offset_text x)) same in
    let last = in_offset text moment d 6 (omega arith) (omega (arith, six)) in
    let byte : get_or (offset_text d.offset) (length (offset_text d.offset) - 6) 0 ≡ 45 =
    ap (λ (x : Offset). get_or (offset_text x) (length (offset_text x) - 6) 0) same in
    let some : 6 ≤ length text = omega (arith, ap length d.spelled) in
    or_right _ _ (and_from _ _ (le-leb 6 (length text) some) (or_right _ _ (eq-eqb _ 45 (last ∙ byte))))

pub timestamp_has_form : (text : List ℕ) (moment : ℤ) → IsTimestamp text moment → has_form text ≡ true
timestamp_has_form text moment h =
    let d = h.is_date_time in
    let long : 10 < length text = omega (arith, ap length d.spelled) in
    let mark : slice_index text 10 ≡ 84 = ap (λ (t : List ℕ). slice_index t 10) d.spelled ∙ h.is_mark in
    and_from _ _ (lt-ltb 10 (length text) long)
    (and_from _ _ (eq-eqb (slice_index text 10) 84 mark) (ends text moment d d.offset refl h.is_offset))

-- ---- counts have no `T`

plain_clock : (text : List ℕ) → list_all is_clock_byte text ≡ true → has_form text ≡ true → ⊥
plain_clock text all form =
    let parts = and_parts (nat_lt 10 (length text)) _ form in
    let mark = eqb-true (slice_index text 10) 84 (and_parts _ _ parts.1).0 in
    false≢true (sym (list_all_at is_clock_byte text 10 0 (ltb-true 10 (length text) parts.0) (rw mark refl)) ∙ all)

pub timestamp_from_moment : (text : List ℕ) (moment : ℤ) → SpellsMoment text moment → IsMomentInRange moment
    → has_form text ≡ true → IsTimestamp text moment
timestamp_from_moment text moment (counted count) range form =
    absurd (plain_clock text (digits_clock text count.is_number.digits.each) form)
timestamp_from_moment text moment (in_seconds seconds) range form =
    let f = seconds.is_fraction in
    absurd (plain_clock text (ap (list_all is_clock_byte) seconds.spelled
    ∙ both is_clock_byte seconds.whole seconds.fraction (digits_clock seconds.whole seconds.is_number.digits.each)
    (fraction_clock seconds.fraction seconds.nanos (inr f))) form)
timestamp_from_moment text moment (dated d) range form =
    let parts = and_parts (nat_lt 10 (length text)) _ form in
    let marks = and_parts (slice_index text 10 == 84) _ parts.1 in
    record {
      is_date_time = d;
      is_mark = sym (ap (λ (t : List ℕ). slice_index t 10) d.spelled) ∙ eqb-true (slice_index text 10) 84 marks.0;
      is_offset = stated text moment d d.offset refl marks.1;
      in_range = range;
    }

-- ---- all bytes of a timestamp are visible

two_visible : (n : ℕ) → n < 100 → list_all is_visible (two_digits n) ≡ true
two_visible n h = all_clock_visible (two_digits n) (two_clock n h)

month_below : (year month : ℕ) → days_in_month year month < 100
month_below year month = grind arith

date_visible : (date : Date) → IsDate date → list_all is_visible (date_text date) ≡ true
date_visible date h =
    let most = month_below date.year date.month in
    let day : list_all is_visible (two_digits date.day) ≡ true = two_visible date.day (omega (arith, h.day.1)) in
    let month : list_all is_visible (two_digits date.month) ≡ true = two_visible date.month (omega
    (arith, h.month.1)) in
    let century = date.year / 100 in
    let year = date.year % 100 in
    let first : list_all is_visible (two_digits century) ≡ true = two_visible century (omega (arith, h.year)) in
    let second : list_all is_visible (two_digits year) ≡ true = two_visible year (omega arith) in
    let days = two_digits date.day in
    let months = two_digits date.month ++ 45 ∷ days in
    both is_visible (two_digits century) (two_digits year ++ 45 ∷ months) first
    (both is_visible (two_digits year) (45 ∷ months) second
    (and_from true (list_all is_visible months) refl (both is_visible (two_digits date.month) (45 ∷ days) month
    (and_from true (list_all is_visible days) refl day))))

hours_visible : (hours minutes : ℕ) → hours < 24 → minutes < 60 → list_all is_visible (hours_text hours minutes) ≡ true
hours_visible hours minutes h m =
    both is_visible (two_digits hours) (58 ∷ two_digits minutes) (two_visible hours (omega arith))
    (and_from true (list_all is_visible (two_digits minutes)) refl (two_visible minutes (omega arith)))

offset_visible : (o : Offset) → IsOffset o → list_all is_visible (offset_text o) ≡ true
offset_visible omitted h = refl
offset_visible zulu h = refl
offset_visible small_zulu h = refl
offset_visible (ahead hours minutes) h = and_from true (list_all is_visible (hours_text hours minutes)) refl
    (hours_visible hours minutes h.0 h.1)
offset_visible (behind hours minutes) h = and_from true (list_all is_visible (hours_text hours minutes)) refl
    (hours_visible hours minutes h.0 h.1)

pub timestamp_visible : (text : List ℕ) (moment : ℤ) → IsTimestamp text moment → list_all is_visible text ≡ true
timestamp_visible text moment h =
    let d = h.is_date_time in
    let mark : is_visible d.mark ≡ true = ap is_visible h.is_mark in
    ap (list_all is_visible) (parts_of text moment d)
    ∙ both is_visible (front_of text moment d ++ clock_of text moment d) (offset_text d.offset)
    (both is_visible (front_of text moment d) (clock_of text moment d)
    (both is_visible (date_text d.date) (d.mark ∷ []) (date_visible d.date d.is_date) (and_from _ _ mark refl))
    (all_clock_visible (clock_of text moment d) (all_clock text moment d)))
    (offset_visible d.offset d.is_offset)

-- ---- the part of a timestamp

pub time_plain : (text : List ℕ) (time : Option ℤ) → IsTime text time → list_all is_no_blank text ≡ true
time_plain text None h = ap (list_all is_no_blank) h
time_plain text (Some moment) h = visible_no_blanks text (timestamp_visible text moment h)

nil_no_timestamp : (text : List ℕ) (moment : ℤ) → text ≡ nil → IsTimestamp text moment → ⊥
nil_no_timestamp text moment is h = false≢true (sym (ap has_form is) ∙ timestamp_has_form text moment h)

time_stands : (text rest : List ℕ) (time : Option ℤ) → Stands (λ part. IsTime part time) text rest
    → IsTime (first_part text) time × (rest ≡ behind_part text)
time_stands text rest time h =
    let same = stands_only (λ part. IsTime part time) text rest h (time_plain h.part time h.is_so) in
    (subst (λ (t : List ℕ). IsTime t time) same.0 h.is_so, same.1)

-- at a nil timestamp there is no moment
pub nil_only : (text : List ℕ) → first_part text ≡ nil → (time : Option ℤ) (rest : List ℕ)
    → Stands (λ part. IsTime part time) text rest → (time ≡ None) × (rest ≡ behind_part text)
nil_only text is None rest h = (refl, (time_stands text rest None h).1)
nil_only text is (Some moment) rest h =
    absurd (nil_no_timestamp (first_part text) moment is (time_stands text rest (Some moment) h).0)

pub moment_only : (text : List ℕ) (moment : ℤ) → (first_part text ≡ nil → ⊥)
    → ((other : ℤ) → IsTimestamp (first_part text) other → other ≡ moment) → (time : Option ℤ) (rest : List ℕ)
    → Stands (λ part. IsTime part time) text rest → (time ≡ Some moment) × (rest ≡ behind_part text)
moment_only text moment other only None rest h = absurd (other (time_stands text rest None h).0)
moment_only text moment other only (Some found) rest h =
    let at = time_stands text rest (Some found) h in
    (ap Some (only found at.0), at.1)

pub no_time : (text : List ℕ) → (first_part text ≡ nil → ⊥) → ((moment : ℤ) → IsTimestamp (first_part text) moment → ⊥)
    → (rest : List ℕ) → Stands (IsPart timestamp) text rest → ⊥
no_time text other none rest h = go h.is_so.0 (record {
  part = h.part;
  after = h.after;
  is_so = h.is_so.1;
  spelled = h.spelled;
  behind = h.behind;
})
  where
    go : (time : Option ℤ) → Stands (λ part. IsTime part time) text rest → ⊥
    go None s = other (time_stands text rest None s).0
    go (Some moment) s = none moment (time_stands text rest (Some moment) s).0

pub moment_stands : (text rest : List ℕ) (moment value : ℤ) → value ≡ moment → rest ≡ behind_part text
    → IsTimestamp (first_part text) moment → Stands (λ part. IsTime part (Some value)) text rest
moment_stands text rest moment value same rest_is is =
    subst (λ (z : ℤ). Stands (λ part. IsTime part (Some z)) text rest) (sym same)
    (subst (λ (r : List ℕ). Stands (λ part. IsTime part (Some moment)) text r) (sym rest_is)
    (stands_here (λ part. IsTime part (Some moment)) text is))
