-- Rows whose numbers follow each other without a gap are those of batches.
use Rattle.std.proofs.Common.{◌≡◌, ◌∙◌, ℕ, zero, suc, ◌+◌, ◌<◌, ◌≤◌, true, List, [], ◌∷◌, ◌++◌, length, map}
use Rattle.std.proofs.Common.{ap, arith, eq-eqb, refl, subst, sym, ◌⊎◌, inl, inr}
use Rattle.std.specs.Prelude.{◌&&◌, ◌==◌, if◌then◌else◌}
use Rattle.std.specs.List.{AllByRecursion}
use Rattle.std.specs.List.Sorted.{IsStrictlySortedBy}
use Rattle.std.specs.declared.cmp.Ordering.TheVariants.{Less}
use Rattle.std.proofs.lemmas.Bool.{and_from, and_parts, eqb-true, ne_eqb}
use Rattle.std.proofs.lemmas.Bool.Decides.{nat_tests}
use Rattle.log_model.specs.Batches.{batch_rows, batch_rows_after}
use Rattle.log_model.specs.History.{Numbered, numbered_from}
use Rattle.log_model.specs.Row.{Batch, Row}
use Rattle.block_format.specs.Rows.{number_cmp, number_of}
use Rattle.part_batches.specs.Counted.{are_counted, goes_on}

-- ---- which number goes on

-- the next place, or the next batch
abbrev GoesOn : ℕ → ℕ → ℕ × ℕ → Type 0
GoesOn batch places number =
    ((number.0 ≡ suc batch) × (number.1 ≡ 0)) ⊎ ((number.0 ≡ batch) × (number.1 ≡ places) × (0 < places))

late : (batch places m n : ℕ) → goes_on batch places (m, suc n) ≡ ((m == batch) && (suc n == places))
late batch places m n =
    ap (λ t. if t then m == batch + 1 else ((m == batch) && (suc n == places)))
    (ne_eqb (suc n) 0 (λ e. omega (arith, e)))

goes-on-is : (batch places m n : ℕ) → goes_on batch places (m, n) ≡ true → GoesOn batch places (m, n)
goes-on-is batch places m zero e = inl (omega (arith, eqb-true m (batch + 1) e), refl)
goes-on-is batch places m (suc n) e =
    let p = and_parts (m == batch) (suc n == places) (sym (late batch places m n) ∙ e) in
    let place : suc n ≡ places = eqb-true (suc n) places p.1 in
    inr (eqb-true m batch p.0, place, omega (arith, place))

is-going-on : (batch places m n : ℕ) → GoesOn batch places (m, n) → goes_on batch places (m, n) ≡ true
is-going-on batch places m zero (inl h) = eq-eqb m (batch + 1) (omega (arith, h.0))
is-going-on batch places m zero (inr h) = absurd (omega (arith, h.1, h.2))
is-going-on batch places m (suc n) (inl h) = absurd (omega (arith, h.1))
is-going-on batch places m (suc n) (inr h) =
    late batch places m n ∙ and_from (m == batch) (suc n == places) (eq-eqb m batch h.0) (eq-eqb (suc n) places h.1)

-- ---- counted rows are those of batches

-- rows that go on with rows of one batch, and then have these batches
record AreBatchesAfter (front batch places : ℕ) (rows : List Numbered) : Type 0 where
  more : List Row
  batches : List Batch
  is : rows ≡ numbered_from batch places more ++ batch_rows_after batch batches
  count : batch + length batches ≡ front
  some : AllByRecursion (λ (b : Batch). 0 < length b) batches
  none : places ≡ 0 → more ≡ []

put-row : (front batch places : ℕ) (row : Numbered) (rows : List Numbered) → GoesOn batch places (number_of row)
    → AreBatchesAfter front row.batch (suc row.place) rows → AreBatchesAfter front batch places (row ∷ rows)
put-row front batch places row rows (inl h) rest =
    let rest : AreBatchesAfter front (suc batch) 1 rows =
    subst (λ b. AreBatchesAfter front b 1 rows) h.0 (subst (λ p. AreBatchesAfter front row.batch (suc p) rows) h.1 rest) in
    let same : row ≡ record { batch = suc batch; place = 0; row = row.row } =
    ap (λ (b : ℕ). let r : Numbered = record { batch = b; place = row.place; row = row.row } in r) h.0
    ∙ ap (λ (p : ℕ). let r : Numbered = record { batch = suc batch; place = p; row = row.row } in r) h.1 in
    record {
      more = [];
      batches = (row.row ∷ rest.more) ∷ rest.batches;
      is = ap (λ (r : Numbered). r ∷ rows) same
          ∙ ap (λ (l : List Numbered). record { batch = suc batch; place = 0; row = row.row } ∷ l) rest.is;
      count = omega (arith, rest.count);
      some = (omega arith, rest.some);
      none = λ e. refl;
    }
put-row front batch places row rows (inr h) rest =
    let rest : AreBatchesAfter front batch (suc places) rows =
    subst (λ b. AreBatchesAfter front b (suc places) rows) h.0
    (subst (λ p. AreBatchesAfter front row.batch (suc p) rows) h.1 rest) in
    let same : row ≡ record { batch = batch; place = places; row = row.row } =
    ap (λ (b : ℕ). let r : Numbered = record { batch = b; place = row.place; row = row.row } in r) h.0
    ∙ ap (λ (p : ℕ). let r : Numbered = record { batch = batch; place = p; row = row.row } in r) h.1 in
    record {
      more = row.row ∷ rest.more;
      batches = rest.batches;
      is = ap (λ (r : Numbered). r ∷ rows) same
          ∙ ap (λ (l : List Numbered). record { batch = batch; place = places; row = row.row } ∷ l) rest.is;
      count = rest.count;
      some = rest.some;
      none = λ e. absurd (let some = h.2 in omega (arith, e, some));
    }

counted-are : (front batch places : ℕ) (rows : List Numbered)
    → are_counted front batch places (map number_of rows) ≡ true → AreBatchesAfter front batch places rows
counted-are front batch places [] e = record {
  more = [];
  batches = [];
  is = refl;
  count = omega (arith, eqb-true batch front e);
  some = tt;
  none = λ z. refl;
}
counted-are front batch places (row ∷ rows) e =
    let p = and_parts (goes_on batch places (number_of row)) (are_counted front row.batch (row.place + 1)
    (map number_of rows)) e in
    put-row front batch places row rows (goes-on-is batch places row.batch row.place p.0)
    (subst (λ n. AreBatchesAfter front row.batch n rows) (omega arith)
    (counted-are front row.batch (row.place + 1) rows p.1))

-- Rows whose numbers are counted from the start are those of so many batches, which have a row each.
pub record AreRowsOfBatches (front : ℕ) (rows : List Numbered) : Type 0 where
  pub batches : List Batch
  pub is : rows ≡ batch_rows batches
  pub count : length batches ≡ front
  pub some : AllByRecursion (λ (b : Batch). 0 < length b) batches

pub counted-rows : (front : ℕ) (rows : List Numbered) → are_counted front 0 0 (map number_of rows) ≡ true
    → AreRowsOfBatches front rows
counted-rows front rows e =
    let h = counted-are front 0 0 rows e in
    record {
      batches = h.batches;
      is = h.is ∙ ap (λ (l : List Row). numbered_from 0 0 l ++ batch_rows h.batches) (h.none refl);
      count = omega (arith, h.count);
      some = h.some;
    }

-- ---- rows of batches are counted

one-more : (front batch places : ℕ) (numbers : List (ℕ × ℕ)) (m n : ℕ) → GoesOn batch places (m, n)
    → are_counted front m (suc n) numbers ≡ true → are_counted front batch places ((m, n) ∷ numbers) ≡ true
one-more front batch places numbers m n h e =
    and_from (goes_on batch places (m, n)) (are_counted front m (n + 1) numbers) (is-going-on batch places m n h)
    (subst (λ k. are_counted front m k numbers ≡ true) (omega arith) e)

counted-more : (front batch places : ℕ) (more : List Row) (later : List Numbered) → 0 < places
    → ((n : ℕ) → are_counted front batch n (map number_of later) ≡ true)
    → are_counted front batch places (map number_of (numbered_from batch places more ++ later)) ≡ true
counted-more front batch places [] later some after = after places
counted-more front batch places (row ∷ more) later some after =
    one-more front batch places (map number_of (numbered_from batch (suc places) more ++ later)) batch places
    (inr (refl, refl, some)) (counted-more front batch (suc places) more later (omega arith) after)

counted-after : (front batch : ℕ) (batches : List Batch) → batch + length batches ≡ front
    → AllByRecursion (λ (b : Batch). 0 < length b) batches → (n : ℕ)
    → are_counted front batch n (map number_of (batch_rows_after batch batches)) ≡ true
counted-after front batch [] count some n = eq-eqb batch front (omega (arith, count))
counted-after front batch ([] ∷ batches) count some n = absurd (let none = some.0 in omega (arith, none))
counted-after front batch ((row ∷ rows) ∷ batches) count some n =
    one-more front batch n (map number_of (numbered_from (suc batch) 1 rows ++ batch_rows_after (suc batch) batches))
    (suc batch) 0 (inl (refl, refl)) (counted-more front (suc batch) 1 rows (batch_rows_after (suc batch) batches)
    (omega arith) (counted-after front (suc batch) batches (omega (arith, count)) some.1))

pub rows-counted : (batches : List Batch) → AllByRecursion (λ (b : Batch). 0 < length b) batches
    → are_counted (length batches) 0 0 (map number_of (batch_rows batches)) ≡ true
rows-counted batches some = counted-after (length batches) 0 batches (omega arith) some 0

-- ---- counted numbers rise

-- the number is of a later batch, or of this one and no earlier place
abbrev IsFrom : ℕ → ℕ → ℕ × ℕ → Type 0
IsFrom batch place number = (batch < number.0) ⊎ ((batch ≡ number.0) × (place ≤ number.1))

from-before : (batch places m n : ℕ) → GoesOn batch places (m, n) → (number : ℕ × ℕ) → IsFrom m (suc n) number
    → IsFrom batch places number
from-before batch places m n (inl h) number (inl f) = inl (omega (arith, h.0, f))
from-before batch places m n (inl h) number (inr f) = inl (let a = f.0 in omega (arith, h.0, a))
from-before batch places m n (inr h) number (inl f) = inl (omega (arith, h.0, f))
from-before batch places m n (inr h) number (inr f) =
    let a = h.0 in let b = h.1 in let x = f.0 in let y = f.1 in inr (omega (arith, a, x), omega (arith, b, y))

first-from : (batch places m n : ℕ) → GoesOn batch places (m, n) → IsFrom batch places (m, n)
first-from batch places m n (inl h) = inl (omega (arith, h.0))
first-from batch places m n (inr h) = let a = h.0 in let b = h.1 in inr (omega (arith, a), omega (arith, b))

all-before : (batch places m n : ℕ) → GoesOn batch places (m, n) → (numbers : List (ℕ × ℕ))
    → AllByRecursion (IsFrom m (suc n)) numbers → AllByRecursion (IsFrom batch places) numbers
all-before batch places m n g [] h = tt
all-before batch places m n g (x ∷ numbers) h =
    (from-before batch places m n g x h.0, all-before batch places m n g numbers h.1)

less : (m n k l : ℕ) → IsFrom m (suc n) (k, l) → number_cmp (m, n) (k, l) ≡ Less
less m n k l (inl h) = grind (arith, nat_tests)
less m n k l (inr h) = let a = h.0 in let b = h.1 in grind (arith, nat_tests)

all-less : (m n : ℕ) (numbers : List (ℕ × ℕ)) → AllByRecursion (IsFrom m (suc n)) numbers
    → AllByRecursion (λ y. number_cmp (m, n) y ≡ Less) numbers
all-less m n [] h = tt
all-less m n (x ∷ numbers) h = (less m n x.0 x.1 h.0, all-less m n numbers h.1)

record Rises (batch places : ℕ) (numbers : List (ℕ × ℕ)) : Type 0 where
  from : AllByRecursion (IsFrom batch places) numbers
  sorted : IsStrictlySortedBy number_cmp numbers

rises : (front batch places : ℕ) (numbers : List (ℕ × ℕ)) → are_counted front batch places numbers ≡ true
    → Rises batch places numbers
unfolding IsStrictlySortedBy
rises front batch places [] e = record { from = tt; sorted = tt }
rises front batch places (x ∷ numbers) e =
    let p = and_parts (goes_on batch places x) (are_counted front x.0 (x.1 + 1) numbers) e in
    let g = goes-on-is batch places x.0 x.1 p.0 in
    let rest : Rises x.0 (suc x.1) numbers =
    subst (λ n. Rises x.0 n numbers) (omega arith) (rises front x.0 (x.1 + 1) numbers p.1) in
    record {
      from = (first-from batch places x.0 x.1 g, all-before batch places x.0 x.1 g numbers rest.from);
      sorted = (all-less x.0 x.1 numbers rest.from, rest.sorted);
    }

pub counted-rise : (front : ℕ) (numbers : List (ℕ × ℕ)) → are_counted front 0 0 numbers ≡ true
    → IsStrictlySortedBy number_cmp numbers
counted-rise front numbers e = (rises front 0 0 numbers e).sorted
