-- The days of rows in order of time.
use Rattle.std.proofs.Common.{◌≡◌, ℕ, zero, suc, ◌+◌, ◌*◌, ◌/◌, ◌<◌, ◌≤◌, Bool, true, false, eqb, List, [], ◌∷◌, ◌++◌}
use Rattle.std.proofs.Common.{Some, cond, get_or, length, take, refl, sym, ap, subst, ◌∙◌, arith}
use Rattle.std.specs.Prelude.{◌&&◌, ◌||◌, ◌==◌, nat_lt, slice_get, IfSome, Option}
use Rattle.std.specs.List.{AllByRecursion, filter, list_all}
use Rattle.std.proofs.lemmas.Bool.{and_from, and_parts, eq-eqb, eqb-true}
use Rattle.std.proofs.lemmas.Bool.Decides.{nat_tests}
use Rattle.std.proofs.lemmas.List.Elements.{filter-append}
use Rattle.std.proofs.lemmas.List.Sums.{sum_by-cons}
use Rattle.std.proofs.lemmas.Nat.{le-div}
use Rattle.std.proofs.lemmas.Option.{get_or_from_slice_get, slice_get-get_or, slice_get_within}
use Rattle.std.proofs.Math.Nat.{div-mul-le_self}
use Rattle.log_model.specs.Field.{weight}
use Rattle.log_model.specs.History.{Numbered, rows_in}
use Rattle.log_model.specs.Row.{Row}
use Rattle.day_model.specs.Days.{AreOfTheirDays, DayRows, LieInDay, day_of, is_of_day, rows_of_day}
use Rattle.block_format.specs.Rows.{are_numbered_apart, are_ordered, comes_before, has_other_number}
use Rattle.part_model.specs.Order.{are_in_order, is_earlier}
use Rattle.part_model.specs.Part.{IsPart, rows_weight}
use Rattle.day_parts.specs.Runs.{IsOfOneDay, all_rows, first_day, is_day}

-- ---- within a block

div-rises : (m n k : ℕ) → 0 < k → m ≤ n → m / k ≤ n / k
div-rises m n k some le = le-div (m / k) n k some (omega (arith, div-mul-le_self m k, le))

day-rises : (a b : Numbered) → a.row.moment ≤ b.row.moment → day_of a ≤ day_of b
day-rises a b le = div-rises a.row.moment b.row.moment 86_400_000_000_000 (omega arith) le

no-later : (s t x y p q : ℕ) → (nat_lt s t || ((s == t) && (nat_lt x y || ((x == y) && nat_lt p q)))) ≡ true → s ≤ t
no-later s t x y p q e = grind (arith, nat_tests)

later-day : (a b : Numbered) → comes_before a b ≡ true → day_of a ≤ day_of b
later-day a b e =
    day-rises a b (no-later a.row.moment b.row.moment a.batch b.batch a.place b.place e)

all-at : (p : Numbered → Bool) (rows : List Numbered) (i : ℕ) (d : Numbered) → i < length rows → list_all p rows ≡ true
    → p (get_or rows i d) ≡ true
all-at p [] i d lt e = absurd (omega (arith, lt))
all-at p (a ∷ rows) zero d lt e = (and_parts (p a) (list_all p rows) e).0
all-at p (a ∷ rows) (suc i) d lt e = all-at p rows i d (omega (arith, lt)) (and_parts (p a) (list_all p rows) e).1

-- no row before this one is of a later day
up-to : (rows : List Numbered) (i : ℕ) (d : Numbered) → are_ordered rows ≡ true → i < length rows
    → AllByRecursion (λ (n : Numbered). day_of n ≤ day_of (get_or rows i d)) (take (suc i) rows)
up-to [] i d e lt = absurd (omega (arith, lt))
up-to (a ∷ rows) zero d e lt = (omega arith, tt)
up-to (a ∷ rows) (suc i) d e lt =
    let h = and_parts (list_all (comes_before a) rows) (are_ordered rows) e in (
      later-day a (get_or rows i d) (all-at (comes_before a) rows i d (omega (arith, lt)) h.0),
      up-to rows i d h.1 (omega (arith, lt)),
    )

-- and none of an earlier one than the first
from-first : (a : Numbered) (rows : List Numbered) → list_all (comes_before a) rows ≡ true
    → AllByRecursion (λ (n : Numbered). day_of a ≤ day_of n) rows
from-first a [] e = tt
from-first a (b ∷ rows) e =
    let h = and_parts (comes_before a b) (list_all (comes_before a) rows) e in
    (later-day a b h.0, from-first a rows h.1)

all-take : {X : Type 0} (P : X → Type 0) (n : ℕ) (xs : List X) → AllByRecursion P xs → AllByRecursion P (take n xs)
all-take P zero xs h = tt
all-take P (suc n) [] h = tt
all-take P (suc n) (x ∷ xs) h = (h.0, all-take P n xs h.1)

between : (low high : ℕ) (rows : List Numbered) → low ≡ high → AllByRecursion (λ (n : Numbered). low ≤ day_of n) rows
    → AllByRecursion (λ (n : Numbered). day_of n ≤ high) rows → LieInDay low rows
between low high [] same h k = tt
between low high (a ∷ rows) same h k = (omega (arith, same, h.0, k.0), between low high rows same h.1 k.1)

-- The rows up to one of the day of the first are all of this day.
same-day : (rows : List Numbered) (i : ℕ) (row : Numbered) → are_ordered rows ≡ true
    → slice_get rows i ≡ Some row → day_of row ≡ first_day rows → LieInDay (first_day rows) (take (i + 1) rows)
same-day [] i row e is same = absurd (let lt = slice_get_within [] i row is in omega (arith, lt))
same-day (a ∷ rows) i row e is same =
    let lt : i < length (a ∷ rows) = slice_get_within (a ∷ rows) i row is in
    let there : get_or (a ∷ rows) i row ≡ row = get_or_from_slice_get (a ∷ rows) i row row is in
    let next : suc i ≡ i + 1 = omega arith in
    let day : day_of a ≡ day_of (get_or (a ∷ rows) i row) = sym (ap day_of there ∙ same) in
    let h = and_parts (list_all (comes_before a) rows) (are_ordered rows) e in
    let first : AllByRecursion (λ (n : Numbered). day_of a ≤ day_of n) (a ∷ rows) = (
      omega arith,
      from-first a rows h.0,
    ) in
    subst (λ (n : ℕ). LieInDay (day_of a) (take n (a ∷ rows))) next (between (day_of a) (day_of (get_or (a ∷ rows) i row))
    (take (suc i) (a ∷ rows)) day (all-take (λ (n : Numbered). day_of a ≤ day_of n) (suc i) (a ∷ rows) first) (up-to (a
    ∷ rows) i row e lt))

first-taken : (rows : List Numbered) (count : ℕ) → 0 < count → first_day (take count rows) ≡ first_day rows
first-taken rows zero some = absurd (omega (arith, some))
first-taken [] (suc count) some = refl
first-taken (a ∷ rows) (suc count) some = refl

-- ---- the rows of a day

all-of : (day : ℕ) (rows : List Numbered) → LieInDay day rows → rows_of_day day rows ≡ rows
all-of day [] h = refl
all-of day (a ∷ rows) h = rw (eq-eqb (day_of a) day h.0) (ap (λ (l : List Numbered). a ∷ l) (all-of day rows h.1))

none-of : (day other : ℕ) (rows : List Numbered) → eqb other day ≡ false → LieInDay other rows → rows_of_day day rows ≡ []
none-of day other [] e h = refl
none-of day other (a ∷ rows) e h = rw (ap (λ (d : ℕ). eqb d day) h.0 ∙ e) (none-of day other rows e h.1)

-- The rows of a day are those that stand beside it.
day-rows : (day : ℕ) (picks : List DayRows) → AreOfTheirDays picks
    → all_rows (filter (is_day day) picks) ≡ rows_of_day day (all_rows picks)
day-rows day [] h = refl
day-rows day (r ∷ picks) h =
    by (eqb r.0 day) refl (day-rows day picks h.1) ∙ sym (filter-append (is_of_day day) r.1 (all_rows picks))
  where
    by : (t : Bool) → eqb r.0 day ≡ t → all_rows (filter (is_day day) picks) ≡ rows_of_day day (all_rows picks)
        → all_rows (cond t (r ∷ filter (is_day day) picks) (filter (is_day day) picks))
        ≡ rows_of_day day r.1 ++ rows_of_day day (all_rows picks)
    by true e more =
        let same : r.0 ≡ day = eqb-true r.0 day e in
        ap (λ (l : List Numbered). l ++ all_rows (filter (is_day day) picks)) (sym (all-of day r.1 (subst (λ (d : ℕ).
        LieInDay d r.1) same h.0)))
        ∙ ap (λ (l : List Numbered). rows_of_day day r.1 ++ l) more
    by false e more =
        more ∙ ap (λ (l : List Numbered). l ++ rows_of_day day (all_rows picks)) (sym (none-of day r.0
        r.1 e h.0))

-- ---- rows of a day are those of a part

tests-kept : (q p : Numbered → Bool) (rows : List Numbered) → list_all q rows ≡ true → list_all q (filter p rows) ≡ true
tests-kept q p [] e = refl
tests-kept q p (a ∷ rows) e =
    let h = and_parts (q a) (list_all q rows) e in
    by (p a) (tests-kept q p rows h.1) h.0
  where
    by : (t : Bool) → list_all q (filter p rows) ≡ true → q a ≡ true
        → list_all q (cond t (a ∷ filter p rows) (filter p rows)) ≡ true
    by true k first = and_from (q a) (list_all q (filter p rows)) first k
    by false k first = k

apart-kept : (p : Numbered → Bool) (rows : List Numbered) → are_numbered_apart rows ≡ true
    → are_numbered_apart (filter p rows) ≡ true
apart-kept p [] e = refl
apart-kept p (a ∷ rows) e =
    let h = and_parts (list_all (has_other_number a) rows) (are_numbered_apart rows) e in
    by (p a) (apart-kept p rows h.1) (tests-kept (has_other_number a) p rows h.0)
  where
    by : (t : Bool) → are_numbered_apart (filter p rows) ≡ true → list_all (has_other_number a) (filter p rows) ≡ true
        → are_numbered_apart (cond t (a ∷ filter p rows) (filter p rows)) ≡ true
    by true k first = and_from (list_all (has_other_number a) (filter p rows)) (are_numbered_apart (filter p rows)) first k
    by false k first = k

order-kept : (p : Numbered → Bool) (rows : List Numbered) → are_in_order rows ≡ true → are_in_order (filter p rows) ≡ true
order-kept p [] e = refl
order-kept p (a ∷ rows) e =
    let h = and_parts (list_all (is_earlier a) rows) (are_in_order rows) e in
    by (p a) (order-kept p rows h.1) (tests-kept (is_earlier a) p rows h.0)
  where
    by : (t : Bool) → are_in_order (filter p rows) ≡ true → list_all (is_earlier a) (filter p rows) ≡ true
        → are_in_order (cond t (a ∷ filter p rows) (filter p rows)) ≡ true
    by true k first = and_from (list_all (is_earlier a) (filter p rows)) (are_in_order (filter p rows)) first k
    by false k first = k

weight-kept : (p : Numbered → Bool) (rows : List Numbered) → rows_weight (filter p rows) ≤ rows_weight rows
weight-kept p [] = omega arith
weight-kept p (a ∷ rows) = by (p a) (weight-kept p rows)
  where
    more : (l : List Numbered) → rows_weight (a ∷ l) ≡ weight a.row.fields + rows_weight l
    more l = sum_by-cons (λ (row : Row). weight row.fields) a.row (rows_in l)

    by : (t : Bool) → rows_weight (filter p rows) ≤ rows_weight rows
        → rows_weight (cond t (a ∷ filter p rows) (filter p rows)) ≤ rows_weight (a ∷ rows)
    by true le = omega (arith, more (filter p rows), more rows, le)
    by false le = omega (arith, more rows, le)

pub day-part : (day : ℕ) (rows : List Numbered) → IsPart rows → 0 < length (rows_of_day day rows)
    → IsPart (rows_of_day day rows)
day-part day rows h some = record {
  rules = record {
    some = some;
    apart = apart-kept (is_of_day day) rows h.rules.apart;
    light = omega (arith, weight-kept (is_of_day day) rows, h.rules.light);
  };
  ordered = order-kept (is_of_day day) rows h.ordered;
}

-- ---- what a search finds

at-some : (P : Numbered → Type 0) (rows : List Numbered) (i : ℕ) (d : Numbered) → i < length rows
    → IfSome (slice_get rows i) P → P (get_or rows i d)
at-some P rows i d lt h = subst (λ (o : Option Numbered). IfSome o P) (slice_get-get_or rows i d lt) h

pub up-to-row : (rows : List Numbered) (first this i : ℕ) → are_ordered rows ≡ true → i < length rows
    → IfSome (slice_get rows 0) (λ (n : Numbered). first ≡ day_of n)
    → IfSome (slice_get rows i) (λ (n : Numbered). this ≡ day_of n) → this ≡ first
    → LieInDay (first_day rows) (take (i + 1) rows)
up-to-row [] first this i e lt h k same = absurd (omega (arith, lt))
up-to-row (a ∷ rows) first this i e lt h k same =
    let row = get_or (a ∷ rows) i a in
    let day : this ≡ day_of row = at-some (λ (n : Numbered). this ≡ day_of n) (a ∷ rows) i a lt k in
    let one : first ≡ day_of a = at-some (λ (n : Numbered). first ≡ day_of n) (a ∷ rows) 0 a (omega arith) h in
    same-day (a ∷ rows) i row e (slice_get-get_or (a ∷ rows) i a lt) (sym day ∙ same ∙ one)

pub one-day : (rows : List Numbered) (count : ℕ) → 0 < count → LieInDay (first_day rows) (take count rows)
    → IsOfOneDay (take count rows)
one-day rows count some h =
    subst (λ (d : ℕ). LieInDay d (take count rows)) (sym (first-taken rows count some)) h

pub day-beside : (rows : List Numbered) (day : ℕ) → 0 < length rows
    → IfSome (slice_get rows 0) (λ (n : Numbered). day ≡ day_of n) → IsOfOneDay rows → LieInDay day rows
day-beside [] day some h own = tt
day-beside (a ∷ rows) day some h own =
    subst (λ (d : ℕ). LieInDay d (a ∷ rows)) (sym (at-some (λ (n : Numbered). day ≡ day_of n) (a ∷ rows) 0 a (omega arith)
    h)) own

pub day-is : (day : ℕ) (sorted picks : List DayRows) (rows : List Numbered)
    → filter (is_day day) sorted ≡ filter (is_day day) picks → AreOfTheirDays picks → all_rows picks ≡ rows
    → all_rows (filter (is_day day) sorted) ≡ rows_of_day day rows
day-is day sorted picks rows same own all =
    ap all_rows same ∙ day-rows day picks own ∙ ap (rows_of_day day) all
