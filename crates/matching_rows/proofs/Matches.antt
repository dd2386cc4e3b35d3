-- What was found, in order, are the rows of the history that match.
use Rattle.std.proofs.Common.{◌≡◌, ◌⊎◌, inl, inr, ℕ, suc, ◌+◌, ◌<◌, ◌≤◌, Bool, true, false, ◌&&◌, ◌||◌}
use Rattle.std.proofs.Common.{◌==◌, cond, nat_lt}
use Rattle.std.proofs.Common.{All, List, [], ◌∷◌, get_or, length, map, refl, sym, ap, subst, ◌∙◌, arith, ℤ}
use Rattle.std.proofs.lemmas.Bool.Decides.{nat_tests}
use Rattle.std.proofs.lemmas.List.{length-map}
use Rattle.std.proofs.lemmas.List.Elements.{All-from_recursion, All-head, All-tail, recursion_from_All}
use Rattle.std.proofs.lemmas.List.Sorted.{All-permutation, IsPermutation-map, IsPermutation-sym, sum_by-IsPermutation}
use Rattle.std.proofs.lemmas.List.Sums.{length-filter, sum_by-cons}
use Rattle.std.specs.List.{AllByRecursion, filter, sum_by}
use Rattle.std.specs.List.Sorted.{IsPermutation}
use Rattle.log_model.specs.Batches.{AreRising, IsBefore}
use Rattle.log_model.specs.History.{Numbered, rows_in}
use Rattle.log_model.proofs.OneHistory.{HaveAllOf, one_order}
use Rattle.lq_ast.specs.Condition.{Condition}
use Rattle.lq_ast.specs.Evaluation.{rows_that_hold}
use Rattle.lq_ast.specs.Holds.{holds}
use Rattle.matching_rows.specs.Found.{IsFound, comes_before, row_there}
use Rattle.matching_rows.specs.Matches.{FailsFor, HaveMatches, matches_in, rows_of_all}
use Rattle.matching_rows.specs.declared.fault.MatchFault.{MatchFault}
use Rattle.matching_rows.specs.declared.fault.MatchFault.TheVariants.{ManyRows, Memory}
use Rattle.matching_rows.specs.declared.found.Found.{Found}
use native.Mathlib.Decide.{ℕ_discrete}

-- ---- rows that do not fall

-- a row comes before another, or has the same batch and place
abbrev IsNotAfter : Numbered → Numbered → Type 0
IsNotAfter a b = (a.batch < b.batch) ⊎ ((a.batch ≡ b.batch) × (a.place ≤ b.place))

-- no row comes before an earlier one
abbrev AreNotFalling : List Numbered → Type 0
AreNotFalling [] = Unit {0}
AreNotFalling (row ∷ rows) = AllByRecursion (IsNotAfter row) rows × AreNotFalling rows

not_after : (a p b q : ℕ) → (nat_lt b a || ((b == a) && nat_lt q p)) ≡ false → (a < b) ⊎ ((a ≡ b) × (p ≤ q))
not_after a p b q e = go (ℕ_discrete a b)
  where
    go : Dec (a ≡ b) → (a < b) ⊎ ((a ≡ b) × (p ≤ q))
    go (yes same) = inr (same, grind (arith, nat_tests))
    go (no other) = inl (grind (arith, nat_tests))

-- two numbers that are equal to others
not_after_there : (a p b q i j k l : ℕ) → i ≡ a → j ≡ p → k ≡ b → l ≡ q → (i < k) ⊎ ((i ≡ k) × (j ≤ l))
    → (a < b) ⊎ ((a ≡ b) × (p ≤ q))
not_after_there a p b q i j k l ia jp kb lq (inl below) = inl (omega arith)
not_after_there a p b q i j k l ia jp kb lq (inr same) =
    let first = same.0 in let second = same.1 in inr (omega arith, omega arith)

module _ (opened : List (List Numbered)) where
  later : (x : Found) (xs : List Found) → IsFound opened x → All (IsFound opened) xs
      → ((j : ℕ) (d : Found) → j < length xs → comes_before (get_or xs j d) x ≡ false)
      → AllByRecursion (IsNotAfter (row_there opened x)) (map (row_there opened) xs)
  later x [] is each up = tt
  later x (y ∷ ys) is each up =
      let there = All-head (IsFound opened) y ys each in (
        not_after_there (row_there opened x).batch (row_there opened x).place (row_there opened y).batch
            (row_there opened y).place
            x.batch x.place y.batch y.place is.batch is.place there.batch there.place
            (not_after x.batch x.place y.batch y.place (up 0 y (omega arith))),
        later x ys is (All-tail (IsFound opened) y ys each) (λ j d within. up (suc j) d (omega arith)),
      )

  -- the rows that stand there, where these are in order
  not_falling : (xs : List Found) → All (IsFound opened) xs
      → ((i j : ℕ) (d : Found) → i ≤ j → j < length xs → comes_before (get_or xs j d) (get_or xs i d) ≡ false)
      → AreNotFalling (map (row_there opened) xs)
  not_falling [] each up = tt
  not_falling (x ∷ xs) each up = (
    later x xs (All-head (IsFound opened) x xs each) (All-tail (IsFound opened) x xs each)
        (λ j d within. up 0 (suc j) d (omega arith) (omega arith)),
    not_falling xs (All-tail (IsFound opened) x xs each)
        (λ i j d le within. up (suc i) (suc j) d (omega arith) (omega arith)),
  )

-- ---- each number once

-- one for a row of this batch and place
abbrev has_numbers : ℕ → ℕ → Numbered → ℕ
has_numbers batch place row = cond (row.batch == batch) (cond (row.place == place) 1 0) 0

numbers_or_not : (batch place : ℕ) (row : Numbered)
    → (has_numbers batch place row ≡ 0) ⊎ ((row.batch ≡ batch) × (row.place ≡ place))
numbers_or_not batch place row = go (ℕ_discrete row.batch batch) (ℕ_discrete row.place place)
  where
    go : Dec (row.batch ≡ batch) → Dec (row.place ≡ place)
        → (has_numbers batch place row ≡ 0) ⊎ ((row.batch ≡ batch) × (row.place ≡ place))
    go (yes same) (yes there) = inr (same, there)
    go (yes same) (no other) = inl (grind (arith, nat_tests))
    go (no other) d = inl (grind (arith, nat_tests))

at_most_one : (batch place : ℕ) (row : Numbered) → has_numbers batch place row ≤ 1
at_most_one batch place row = grind (arith, nat_tests)

other_numbers : (batch place : ℕ) (x row : Numbered) → x.batch ≡ batch → x.place ≡ place → IsBefore x row
    → has_numbers batch place row ≡ 0
other_numbers batch place x row b p (inl before) = grind (arith, nat_tests)
other_numbers batch place x row b p (inr before) =
    let after = before.1 in grind (arith, nat_tests)

none_later : (batch place : ℕ) (x : Numbered) (rows : List Numbered) → x.batch ≡ batch → x.place ≡ place
    → AllByRecursion (IsBefore x) rows → sum_by (has_numbers batch place) rows ≡ 0
none_later batch place x [] b p h = refl
none_later batch place x (row ∷ rows) b p h =
    omega (
      arith,
      sum_by-cons (has_numbers batch place) row rows,
      other_numbers batch place x row b p h.0,
      none_later batch place x rows b p h.1,
    )

-- Rows that rise have each number once at most.
rising_once : (batch place : ℕ) (rows : List Numbered) → AreRising rows → sum_by (has_numbers batch place) rows ≤ 1
rising_once batch place [] rising = omega arith
rising_once batch place (row ∷ rows) rising =
    go (rising_once batch place rows rising.1) (numbers_or_not batch place row)
  where
    total : sum_by (has_numbers batch place) (row ∷ rows)
        ≡ has_numbers batch place row + sum_by (has_numbers batch place) rows
    total = sum_by-cons (has_numbers batch place) row rows

    go : sum_by (has_numbers batch place) rows ≤ 1
        → (has_numbers batch place row ≡ 0) ⊎ ((row.batch ≡ batch) × (row.place ≡ place))
        → sum_by (has_numbers batch place) (row ∷ rows) ≤ 1
    go few (inl none) = omega (arith, total, none, few)
    go few (inr is) =
        omega (arith, total, at_most_one batch place row, none_later batch place row rows is.0 is.1 rising.0)

strictly : (x row : Numbered) → IsNotAfter x row → has_numbers x.batch x.place row ≡ 0 → IsBefore x row
strictly x row (inl below) none = inl below
strictly x row (inr same) none =
    let batch = same.0 in let place = same.1 in inr (same.0, grind (arith, nat_tests))

all_strictly : (x : Numbered) (rows : List Numbered) → AllByRecursion (IsNotAfter x) rows
    → sum_by (has_numbers x.batch x.place) rows ≡ 0 → AllByRecursion (IsBefore x) rows
all_strictly x [] h none = tt
all_strictly x (row ∷ rows) h none =
    let total = sum_by-cons (has_numbers x.batch x.place) row rows in (
      strictly x row h.0 (omega (arith, total, none)),
      all_strictly x rows h.1 (omega (arith, total, none)),
    )

itself : (row : Numbered) → has_numbers row.batch row.place row ≡ 1
itself row = grind (arith, nat_tests)

-- Rows that do not fall, each number once, rise.
once_rising : (rows : List Numbered) → AreNotFalling rows
    → ((batch place : ℕ) → sum_by (has_numbers batch place) rows ≤ 1) → AreRising rows
once_rising [] up once = tt
once_rising (row ∷ rows) up once = (
  all_strictly row rows up.0
      (omega (arith, once row.batch row.place, itself row, sum_by-cons (has_numbers row.batch row.place) row rows)),
  once_rising rows up.1 (λ b p. omega (arith, once b p, sum_by-cons (has_numbers b p) row rows)),
)

-- ---- the rows that pass a test

module _ (test : Numbered → Bool) where
  all_filter : (P : Numbered → Type 0) (rows : List Numbered) → AllByRecursion P rows
      → AllByRecursion P (filter test rows)
  all_filter P [] h = tt
  all_filter P (row ∷ rows) h = go (test row) (all_filter P rows h.1)
    where
      go : (b : Bool) → AllByRecursion P (filter test rows)
          → AllByRecursion P (cond b (row ∷ filter test rows) (filter test rows))
      go true rest = (h.0, rest)
      go false rest = rest

  filter_rising : (rows : List Numbered) → AreRising rows → AreRising (filter test rows)
  filter_rising [] rising = tt
  filter_rising (row ∷ rows) rising = go (test row) (filter_rising rows rising.1)
    where
      go : (b : Bool) → AreRising (filter test rows)
          → AreRising (cond b (row ∷ filter test rows) (filter test rows))
      go true rest = (all_filter (IsBefore row) rows rising.0, rest)
      go false rest = rest

  sum_filter : (f : Numbered → ℕ) (rows : List Numbered) → sum_by f (filter test rows) ≤ sum_by f rows
  sum_filter f [] = omega arith
  sum_filter f (row ∷ rows) = go (test row) (sum_filter f rows)
    where
      go : (b : Bool) → sum_by f (filter test rows) ≤ sum_by f rows
          → sum_by f (cond b (row ∷ filter test rows) (filter test rows)) ≤ sum_by f (row ∷ rows)
      go true few = omega (arith, sum_by-cons f row rows, sum_by-cons f row (filter test rows), few)
      go false few = omega (arith, sum_by-cons f row rows, few)

  -- what holds of each that passes
  to_passed : (P : Numbered → Type 0) (rows : List Numbered) → AllByRecursion P (filter test rows)
      → AllByRecursion (λ row. test row ≡ true → P row) rows
  to_passed P [] h = tt
  to_passed P (row ∷ rows) h = go (test row) refl (to_passed P rows) h
    where
      go : (b : Bool) → test row ≡ b
          → (AllByRecursion P (filter test rows) → AllByRecursion (λ row. test row ≡ true → P row) rows)
          → AllByRecursion P (cond b (row ∷ filter test rows) (filter test rows))
          → AllByRecursion (λ row. test row ≡ true → P row) (row ∷ rows)
      go true is rest h = (λ passes. h.0, rest h.1)
      go false is rest h = (λ passes. absurd (let same : true ≡ false = sym passes ∙ is in cc), rest h)

  from_passed : (P : Numbered → Type 0) (rows : List Numbered) → AllByRecursion (λ row. test row ≡ true → P row) rows
      → AllByRecursion P (filter test rows)
  from_passed P [] h = tt
  from_passed P (row ∷ rows) h = go (test row) refl (from_passed P rows h.1)
    where
      go : (b : Bool) → test row ≡ b → AllByRecursion P (filter test rows)
          → AllByRecursion P (cond b (row ∷ filter test rows) (filter test rows))
      go true is rest = (h.0 is, rest)
      go false is rest = rest

  filter_have : (xs ys : List Numbered) → HaveAllOf xs ys → HaveAllOf (filter test xs) (filter test ys)
  filter_have xs ys have P h = from_passed P ys (have (λ row. test row ≡ true → P row) (to_passed P xs h))

have_all : (xs ys : List Numbered) → IsPermutation xs ys → HaveAllOf xs ys
have_all xs ys same P all = recursion_from_All P ys (All-permutation P xs ys same (All-from_recursion P xs all))

-- The rows that pass, in order, are those of the history.
matched : (test : Numbered → Bool) (rows found history : List Numbered) → AreRising history
    → IsPermutation rows history → IsPermutation (filter test rows) found → AreNotFalling found
    → found ≡ filter test history
matched test rows found history rising moved passed up =
    one_order found (filter test history)
    (once_rising found up
    (λ b p. omega (
      arith,
      sum_by-IsPermutation (has_numbers b p) (filter test rows) found passed,
      sum_filter test (has_numbers b p) rows,
      sum_by-IsPermutation (has_numbers b p) rows history moved,
      rising_once b p history rising,
    ))) (filter_rising test history rising)
    (λ P h. filter_have test rows history (have_all rows history moved) P
    (have_all found (filter test rows) (IsPermutation-sym (filter test rows) found passed) P h))
    (λ P h. have_all (filter test rows) found passed P
    (filter_have test history rows (have_all history rows (IsPermutation-sym rows history moved)) P h))

-- As many rows pass.
as_many : (test : Numbered → Bool) (rows history : List Numbered) → IsPermutation rows history
    → length (filter test rows) ≡ length (filter test history)
as_many test rows history moved =
    length-filter test rows
    ∙ sym (sum_by-IsPermutation (λ row. cond (test row) 1 0) rows history moved) ∙ sym (length-filter test history)

-- ---- rows of blocks

module _ (condition : Condition) (now : ℤ) where
  rows_matched : (rows : List Numbered)
      → rows_in (matches_in condition now rows) ≡ rows_that_hold condition now (rows_in rows)
  rows_matched [] = refl
  rows_matched (row ∷ rows) = go (holds now condition row.row) (rows_matched rows)
    where
      go : (b : Bool) → rows_in (matches_in condition now rows) ≡ rows_that_hold condition now (rows_in rows)
          → rows_in (cond b (row ∷ matches_in condition now rows) (matches_in condition now rows))
          ≡ cond b (row.row ∷ rows_that_hold condition now (rows_in rows)) (rows_that_hold condition now (rows_in rows))
      go true rest = ap (λ l. row.row ∷ l) rest
      go false rest = rest

  module _ (opened : List (List Numbered)) (history : List Numbered) (of : HaveMatches condition now opened history)
    where
      -- As many rows match.
      pub counted : length (matches_in condition now (rows_of_all opened))
          ≡ length (rows_that_hold condition now (rows_in history))
      counted =
          ap length of.matches ∙ as_many (λ row. holds now condition row.row) of.rows history of.same
          ∙ sym (length-map (matches_in condition now history) (λ row. row.row)) ∙ ap length (rows_matched history)

      pub fails : (fault : MatchFault) → FailsFor (length (matches_in condition now (rows_of_all opened))) fault
          → FailsFor (length (rows_that_hold condition now (rows_in history))) fault
      fails ManyRows h = omega (arith, h, counted)
      fails Memory h = tt

      -- What was found in the blocks, in order, are the rows of the history that match.
      pub answered : (found sorted : List Found)
          → map (row_there opened) found ≡ matches_in condition now (rows_of_all opened)
          → IsPermutation found sorted → All (IsFound opened) sorted
          → ((i j : ℕ) (d : Found) → i ≤ j → j < length sorted
          → comes_before (get_or sorted j d) (get_or sorted i d) ≡ false)
          → rows_in (map (row_there opened) sorted) ≡ rows_that_hold condition now (rows_in history)
      answered found sorted are moved each up =
          ap rows_in
          (matched (λ row. holds now condition row.row) of.rows (map (row_there opened) sorted) history of.rising
          of.same
          (subst (λ l. IsPermutation l (map (row_there opened) sorted)) (are ∙ of.matches)
          (IsPermutation-map (row_there opened) found sorted moved)) (not_falling opened sorted each up))
          ∙ rows_matched history
