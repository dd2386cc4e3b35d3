-- The order of the parts after a replacement.
use Rattle.std.proofs.Common.{◌≡◌, ◌≢◌, inl, inr, ℕ, suc, ◌+◌, ◌<◌, ◌≤◌, Bool, true, false, List, [], ◌∷◌, ◌++◌, length}
use Rattle.std.proofs.Common.{refl, sym, ◌∙◌, ap, subst, arith, get_or}
use Rattle.std.specs.Prelude.{cond, ◌⊎◌}
use Rattle.std.specs.List.{AllByRecursion, Contains, filter}
use Rattle.std.specs.List.Sorted.{IsPermutation, IsNonDecreasingBy}
use Rattle.std.proofs.lemmas.Bool.{eqb-true, eq-eqb, cases_lt}
use Rattle.std.proofs.lemmas.List.Elements.{recursion_from_All, Contains-get_or, filter-append}
use Rattle.std.proofs.lemmas.List.Sorted.{Contains-permutation, IsPermutation-sym}
use Rattle.day_model.specs.Days.{DayRows, AreOfTheirDays}
use Rattle.part_store.specs.State.{Listed, EachPair, ComesBefore, AreInOrder, AreStored, IsFileBelow, LiesInDay}
use Rattle.part_store.specs.State.{is_day, kept, added}
use Rattle.part_store.proofs.Every.{both, weaker, filtered, passes, reordered, append, at_each, pairs_weaker}
use Rattle.part_store.proofs.Every.{pairs_filtered}
use Rattle.part_store.proofs.Every.{pairs_append, across, pair_cases, contains_filtered}

-- ---- files

abbrev pub HasLowerFile : Listed → Listed → Type 0
HasLowerFile a b = a.file < b.file

abbrev HasOtherFile : Listed → Listed → Type 0
HasOtherFile a b = a.file ≢ b.file

abbrev pub IsFrom : ℕ → Listed → Type 0
IsFrom n part = n ≤ part.file

abbrev pub IsUnder : ℕ → Listed → Type 0
IsUnder n part = part.file < n

pub added_from : (least next : ℕ) (new : List DayRows) → least ≤ next → AllByRecursion (IsFrom least) (added next new)
added_from least next [] below = tt
added_from least next (part ∷ new) below = (below, added_from least (suc next) new (omega (arith, below)))

pub added_under : (next : ℕ) (new : List DayRows) (end : ℕ) → next + length new ≤ end
    → AllByRecursion (IsUnder end) (added next new)
added_under next [] end fits = tt
added_under next (part ∷ new) end fits = (omega (arith, fits), added_under (suc next) new end (omega (arith, fits)))

pub added_rises : (next : ℕ) (new : List DayRows) → EachPair HasLowerFile (added next new)
added_rises next [] = tt
added_rises next (part ∷ new) = (
  weaker (IsFrom (suc next)) (λ q. next < q.file) (λ q from. omega (arith, from)) (added (suc next) new) (added_from
      (suc next) (suc next) new (omega arith)),
  added_rises (suc next) new,
)

pub added_days : (next : ℕ) (new : List DayRows) → AreOfTheirDays new → AllByRecursion LiesInDay (added next new)
added_days next [] days = tt
added_days next (part ∷ new) days = (days.0, added_days (suc next) new days.1)

pub length_added : (next : ℕ) (new : List DayRows) → length (added next new) ≡ length new
length_added next [] = refl
length_added next (part ∷ new) = ap suc (length_added (suc next) new)

-- ---- within a day

day_is : (day : ℕ) (part : Listed) → is_day day part ≡ true → part.day ≡ day
day_is day part is = eqb-true part.day day is

-- of a day, files rise
one_day : (day : ℕ) (part : Listed) (parts : List Listed) → part.day ≡ day → AllByRecursion (ComesBefore part) parts
    → AllByRecursion (HasLowerFile part) (filter (is_day day) parts)
one_day day part parts is before =
    both (ComesBefore part) (λ q. is_day day q ≡ true) (HasLowerFile part) (λ q comes on. pick q comes.0
    (day_is day q on))
    (filter (is_day day) parts) (filtered (ComesBefore part) (is_day day) parts before) (passes (is_day day) parts)
  where
    pick : (q : Listed) → (part.day < q.day) ⊎ ((part.day ≡ q.day) × (part.file < q.file)) → q.day ≡ day
        → part.file < q.file
    pick q (inl earlier) on = absurd (omega (arith, earlier, on, is))
    pick q (inr same) on = same.1

pub day_rises : (day : ℕ) (parts : List Listed) → AreInOrder parts → EachPair HasLowerFile (filter (is_day day) parts)
day_rises day [] order = tt
day_rises day (part ∷ parts) order = by (is_day day part) refl (day_rises day parts order.1)
  where
    by : (b : Bool) → is_day day part ≡ b → EachPair HasLowerFile (filter (is_day day) parts)
        → EachPair HasLowerFile (cond b (part ∷ filter (is_day day) parts) (filter (is_day day) parts))
    by true is rest = (one_day day part parts (day_is day part is) order.0, rest)
    by false is rest = rest

-- ---- sorted by day

abbrev pub HasNoLaterDay : Listed → Listed → Type 0
HasNoLaterDay a b = a.day ≤ b.day

pub days_rise : (parts : List Listed) → IsNonDecreasingBy (λ (part : Listed). part.day) parts
    → EachPair HasNoLaterDay parts
days_rise [] up = tt
days_rise (part ∷ parts) up = (
  recursion_from_All (HasNoLaterDay part) parts (λ k d below. up 0 (suc k) d (omega arith) (omega (arith, below))),
  days_rise parts (λ i j d le below. up (suc i) (suc j) d (omega (arith, le)) (omega (arith, below))),
)

-- parts that have one file have one day
abbrev FilesTell : List Listed → Type 0
FilesTell parts = (p q : Listed) → Contains parts p → Contains parts q → p.file ≡ q.file → p.day ≡ q.day

files_tell : (parts : List Listed) → EachPair HasOtherFile parts → FilesTell parts
files_tell parts apart p q has other same = elim (pair_cases HasOtherFile parts p q apart has other) [
  | inl is ↦ ap (λ (x : Listed). x.day) is
  | inr (inl ne) ↦ absurd (ne same)
  | inr (inr ne) ↦ absurd (ne (sym same))
]

in_order_by : (whole parts : List Listed) → FilesTell whole → ((p : Listed) → Contains parts p → Contains whole p)
    → EachPair HasNoLaterDay parts → ((day : ℕ) → EachPair HasLowerFile (filter (is_day day) parts)) → AreInOrder parts
in_order_by whole [] tell among days files = tt
in_order_by whole (part ∷ parts) tell among days files = (
  recursion_from_All (ComesBefore part) parts (λ k d below. here (get_or parts k d) (Contains-get_or parts k d below)
      (at_each (HasNoLaterDay part) parts (get_or parts k d) days.0 (Contains-get_or parts k d below))),
  in_order_by whole parts tell later days.1 (λ day. rest day),
)
  where
    later : (p : Listed) → Contains parts p → Contains whole p
    later p has = among p (suc has.0, omega (arith, has.1), has.2)

    first : Contains whole part
    first = among part (0, omega arith, refl)

    rest : (day : ℕ) → EachPair HasLowerFile (filter (is_day day) parts)
    rest day = by (is_day day part) (files day)
      where
        by : (b : Bool) → EachPair HasLowerFile (cond b (part ∷ filter (is_day day) parts) (filter (is_day day) parts))
            → EachPair HasLowerFile (filter (is_day day) parts)
        by true up = up.1
        by false up = up

    own : AllByRecursion (HasLowerFile part) (filter (is_day part.day) parts)
    own = by (is_day part.day part) (eq-eqb part.day part.day refl) (files part.day)
      where
        by : (b : Bool) → b ≡ true → EachPair HasLowerFile (cond b (part ∷ filter (is_day part.day) parts) (filter
            (is_day part.day) parts))
            → AllByRecursion (HasLowerFile part) (filter (is_day part.day) parts)
        by true is up = up.0
        by false is up = absurd cc

    here : (q : Listed) → Contains parts q → part.day ≤ q.day → ComesBefore part q
    here q has le = elim (cases_lt part.day q.day) [
      | inl earlier ↦ (inl earlier, λ same. absurd (omega (arith, earlier, tell part q first (later q has) same)))
      | inr ge ↦
          let on : q.day ≡ part.day = omega (arith, le, ge) in
          let lower : part.file < q.file = at_each (HasLowerFile part) (filter (is_day part.day) parts) q own
          (contains_filtered (is_day part.day) parts q has (eq-eqb q.day part.day on)) in (
            inr (sym on, lower),
            λ same. absurd (omega (arith, lower, same)),
          )
    ]

-- ---- after a replacement

module _ (old : List ℕ) (new : List DayRows) (next : ℕ) (before after : List Listed) (stored : AreStored next before)
    (same : IsPermutation (kept old before ++ added next new) after)
    (by_day : (day : ℕ) → filter (is_day day) after ≡ filter (is_day day) (kept old before ++ added next new))
    (up : IsNonDecreasingBy (λ (part : Listed). part.day) after) where
  abbrev whole : List Listed
  whole = kept old before ++ added next new

  under : AllByRecursion (IsUnder next) (kept old before)
  under = weaker (IsFileBelow next) (IsUnder next) (λ p below. below.1) (kept old before)
      (filtered (IsFileBelow next) _ before stored.files)

  apart : EachPair HasOtherFile whole
  apart = pairs_append HasOtherFile (kept old before) (added next new)
      (pairs_weaker ComesBefore HasOtherFile (λ p q comes. comes.1) (kept old before)
      (pairs_filtered ComesBefore _ before stored.order))
      (pairs_weaker HasLowerFile HasOtherFile (λ p q lower is. absurd (omega (arith, lower, is))) (added next new)
      (added_rises next new))
      (across (IsUnder next) (IsFrom next) HasOtherFile (λ p q low high is. absurd (omega (arith, low, high, is)))
      (kept old before) (added next new) under (added_from next next new (omega arith)))

  rises : (day : ℕ) → EachPair HasLowerFile (filter (is_day day) after)
  rises day = subst (EachPair HasLowerFile) (sym (by_day day ∙ filter-append (is_day day) (kept old before)
      (added next new)))
      (pairs_append HasLowerFile (filter (is_day day) (kept old before)) (filter (is_day day) (added next new))
      (day_rises day (kept old before) (pairs_filtered ComesBefore _ before stored.order))
      (pairs_filtered HasLowerFile (is_day day) (added next new) (added_rises next new))
      (across (IsUnder next) (IsFrom next) HasLowerFile (λ p q low high. omega (arith, low, high))
      (filter (is_day day) (kept old before)) (filter (is_day day) (added next new))
      (filtered (IsUnder next) (is_day day) (kept old before) under)
      (filtered (IsFrom next) (is_day day) (added next new) (added_from next next new (omega arith)))))

  order : AreInOrder after
  order = in_order_by whole after (files_tell whole apart)
      (λ p has. Contains-permutation after whole p (IsPermutation-sym whole after same) has)
      (days_rise after up) rises

  pub stored_after : AreOfTheirDays new → 2 ≤ next → AreStored (next + length new) after
  stored_after days least = record {
    order = order;
    files = reordered (IsFileBelow (next + length new)) whole after same
        (append (IsFileBelow (next + length new)) (kept old before) (added next new)
        (filtered (IsFileBelow (next + length new)) _ before (weaker (IsFileBelow next) (IsFileBelow
        (next + length new)) (λ p b. (b.0, omega (arith, b.1))) before stored.files))
        (both (IsFrom next) (IsUnder (next + length new)) (IsFileBelow (next + length new)) (λ p low high. (
          omega
              (arith, low, least),
          high,
        )) (added next new)
        (added_from next next new (omega arith)) (added_under next new (next + length new) (omega arith))));
    days = reordered LiesInDay whole after same
        (append LiesInDay (kept old before) (added next new) (filtered LiesInDay _ before stored.days)
        (added_days next new days));
  }
