-- Pieces that were sorted by their days.
use Rattle.std.proofs.Common.{◌≡◌, ◌⊎◌, inl, inr, ℕ, zero, suc, ◌+◌, ◌<◌, ◌≤◌, Bool, true, false, cond, eqb, List, []}
use Rattle.std.proofs.Common.{◌∷◌, ◌++◌}
use Rattle.std.proofs.Common.{length, get_or, map, refl, sym, ap, subst, ◌∙◌, append_assoc, arith, eq-eqb, eqb-true}
use Rattle.std.specs.Prelude.{◌&&◌, not}
use Rattle.std.specs.List.{AllByRecursion, filter}
use Rattle.std.specs.List.Sorted.{IsNonDecreasingBy, IsPermutation, IsStableByKey, ties}
use Rattle.std.specs.Ordering.{is_lt, nat_cmp}
use Rattle.std.proofs.lemmas.Bool.Decides.{nat_tests}
use Rattle.std.proofs.lemmas.List.Elements.{filter_agree}
use Rattle.std.proofs.lemmas.List.Sorted.{IsPermutation-append, IsPermutation-append_comm, IsPermutation-append_left}
use Rattle.std.proofs.lemmas.List.Sorted.{IsPermutation-append_right, IsPermutation-map, IsPermutation-refl}
use Rattle.std.proofs.lemmas.List.Sorted.{IsPermutation-sym}
use Rattle.std.proofs.lemmas.List.Sorted.{IsPermutation-trans}
use Rattle.log_model.specs.History.{Numbered}
use Rattle.day_model.specs.Days.{AreOfTheirDays, DayRows, LieInDay}
use Rattle.merge_plan.specs.Planned.{is_of, rows_of_parts}
use Rattle.merge_plan.specs.Grouping.{ArePieces, AreRising, rows_in_parts}
use Rattle.merge_plan.proofs.Lists.{all-permutation, none-pass}

-- ---- filters

mapped : {X Y : Type 0} (f : X → Y) (p : Y → Bool) (x : X) (xs : List X)
    → filter p (map f xs) ≡ map f (filter (λ (z : X). p (f z)) xs) → (t : Bool)
    → cond t (f x ∷ filter p (map f xs)) (filter p (map f xs))
    ≡ map f (cond t (x ∷ filter (λ (z : X). p (f z)) xs) (filter (λ (z : X). p (f z)) xs))
mapped f p x xs rest true = ap (λ l. f x ∷ l) rest
mapped f p x xs rest false = rest

filter-map : {X Y : Type 0} (f : X → Y) (p : Y → Bool) (xs : List X)
    → filter p (map f xs) ≡ map f (filter (λ (z : X). p (f z)) xs)
filter-map f p [] = refl
filter-map f p (x ∷ xs) = mapped f p x xs (filter-map f p xs) (p (f x))

both-ways : {X : Type 0} (p q : X → Bool) (x : X) (xs : List X) → filter p (filter q xs) ≡ filter q (filter p xs)
    → (t u : Bool) → p x ≡ t → q x ≡ u
    → filter p (cond u (x ∷ filter q xs) (filter q xs)) ≡ filter q (cond t (x ∷ filter p xs) (filter p xs))
both-ways p q x xs rest true true e f =
    ap (λ t. cond t (x ∷ filter p (filter q xs)) (filter p (filter q xs))) e ∙ ap (λ l. x ∷ l) rest
    ∙ ap (λ t. cond t (x ∷ filter q (filter p xs)) (filter q (filter p xs))) (sym f)
both-ways p q x xs rest true false e f =
    rest ∙ ap (λ t. cond t (x ∷ filter q (filter p xs)) (filter q (filter p xs))) (sym f)
both-ways p q x xs rest false true e f =
    ap (λ t. cond t (x ∷ filter p (filter q xs)) (filter p (filter q xs))) e ∙ rest
both-ways p q x xs rest false false e f = rest

filters-commute : {X : Type 0} (p q : X → Bool) (xs : List X) → filter p (filter q xs) ≡ filter q (filter p xs)
filters-commute p q [] = refl
filters-commute p q (x ∷ xs) = both-ways p q x xs (filters-commute p q xs) (p x) (q x) refl refl

short-case : {X : Type 0} (x : X) (xs kept : List X) → length kept ≤ length xs → (t : Bool)
    → length (cond t (x ∷ kept) kept) ≤ length (x ∷ xs)
short-case x xs kept le true = omega arith
short-case x xs kept le false = omega arith

filter-short : {X : Type 0} (p : X → Bool) (xs : List X) → length (filter p xs) ≤ length xs
filter-short p [] = omega arith
filter-short p (x ∷ xs) = short-case x xs (filter p xs) (filter-short p xs) (p x)

-- ---- rows

both-case : (p : DayRows → Bool) (x : DayRows) (xs : List DayRows)
    → IsPermutation (rows_of_parts xs) (rows_of_parts (filter p xs) ++ rows_of_parts (filter (λ x. not
    (p x)) xs)) → (t : Bool)
    → IsPermutation (x.1 ++ rows_of_parts xs)
    (rows_of_parts (cond t (x ∷ filter p xs) (filter p xs))
    ++ rows_of_parts (cond (not t) (x ∷ filter (λ x. not (p x)) xs) (filter (λ x. not (p x)) xs)))
both-case p x xs rest true =
    let a = rows_of_parts (filter p xs) in
    let b = rows_of_parts (filter (λ x. not (p x)) xs) in
    subst (λ (l : List Numbered). IsPermutation (x.1 ++ rows_of_parts xs) l) (sym (append_assoc x.1 a b))
    (IsPermutation-append_right x.1 (rows_of_parts xs) (a ++ b) rest)
both-case p x xs rest false =
    let a = rows_of_parts (filter p xs) in
    let b = rows_of_parts (filter (λ x. not (p x)) xs) in
    IsPermutation-trans (x.1 ++ rows_of_parts xs) (x.1 ++ (a ++ b)) (a ++ (x.1 ++ b))
    (IsPermutation-append_right x.1 (rows_of_parts xs) (a ++ b) rest)
    (subst (λ (l : List Numbered). IsPermutation l (a ++ (x.1 ++ b))) (append_assoc x.1 a b)
    (subst (λ (l : List Numbered). IsPermutation ((x.1 ++ a) ++ b) l) (append_assoc a x.1 b)
    (IsPermutation-append_left b (x.1 ++ a) (a ++ x.1) (IsPermutation-append_comm x.1 a))))

-- those of the parts that pass a test, and those of the others
both-rows : (p : DayRows → Bool) (xs : List DayRows)
    → IsPermutation (rows_of_parts xs) (rows_of_parts (filter p xs) ++ rows_of_parts (filter (λ x. not (p x)) xs))
both-rows p [] = IsPermutation-refl []
both-rows p (x ∷ xs) = both-case p x xs (both-rows p xs) (p x)

-- Lists that have the same parts of each day have the same rows.
same-rows : (n : ℕ) (xs ys : List DayRows) → length ys ≤ n
    → ((day : ℕ) → filter (is_of day) ys ≡ filter (is_of day) xs) → IsPermutation (rows_of_parts ys) (rows_of_parts xs)
same-rows n [] [] le same = IsPermutation-refl []
same-rows n (x ∷ xs) [] le same =
    let none : [] ≡ x ∷ filter (is_of x.0) xs =
    same x.0 ∙ ap (λ t. cond t (x ∷ filter (is_of x.0) xs) (filter (is_of x.0) xs)) (eq-eqb x.0 x.0 refl) in
    cc
same-rows zero xs (y ∷ ys) le same = absurd (omega arith)
same-rows (suc n) xs (y ∷ ys) le same =
    let p : DayRows → Bool = is_of y.0 in
    let q : DayRows → Bool = λ z. not (is_of y.0 z) in
    let first : filter q (y ∷ ys) ≡ filter q ys =
    ap (λ t. cond (not t) (y ∷ filter q ys) (filter q ys)) (eq-eqb y.0 y.0 refl) in
    let short : length (filter q (y ∷ ys)) ≤ n = omega (arith, ap length first, filter-short q ys) in
    let rest = same-rows n (filter q xs) (filter q (y ∷ ys)) short (λ day.
    filters-commute (is_of day) q (y ∷ ys) ∙ ap (filter q) (same day) ∙ sym (filters-commute (is_of day) q xs)) in
    let here : IsPermutation (rows_of_parts (filter p (y ∷ ys))) (rows_of_parts (filter p xs)) =
    subst (λ l. IsPermutation (rows_of_parts (filter p (y ∷ ys))) (rows_of_parts l)) (same y.0)
    (IsPermutation-refl (rows_of_parts (filter p (y ∷ ys)))) in
    let a = rows_of_parts (filter p (y ∷ ys)) ++ rows_of_parts (filter q (y ∷ ys)) in
    let b = rows_of_parts (filter p xs) ++ rows_of_parts (filter q xs) in
    IsPermutation-trans (rows_of_parts (y ∷ ys)) a (rows_of_parts xs) (both-rows p (y ∷ ys))
    (IsPermutation-trans a b (rows_of_parts xs)
    (IsPermutation-append (rows_of_parts (filter p (y ∷ ys))) (rows_of_parts (filter p xs))
    (rows_of_parts (filter q (y ∷ ys))) (rows_of_parts (filter q xs)) here rest)
    (IsPermutation-sym (rows_of_parts xs) b (both-rows p xs)))

-- ---- a stable sort

ties-nat : (a b : ℕ) → (not (is_lt (nat_cmp a b)) && not (is_lt (nat_cmp b a))) ≡ eqb b a
ties-nat a b = grind (arith, nat_tests)

find-case : {X : Type 0} (n : X → ℕ) (day : ℕ) (x : X) (xs : List X)
    → AllByRecursion (λ (z : X). eqb (n z) day ≡ false) xs ⊎ ((z : X) × (n z ≡ day)) → (t : Bool) → eqb (n x) day ≡ t
    → AllByRecursion (λ (z : X). eqb (n z) day ≡ false) (x ∷ xs) ⊎ ((z : X) × (n z ≡ day))
find-case n day x xs rest true e = inr (x, eqb-true (n x) day e)
find-case n day x xs (inl none) false e = inl (e, none)
find-case n day x xs (inr one) false e = inr one

find : {X : Type 0} (n : X → ℕ) (day : ℕ) (xs : List X)
    → AllByRecursion (λ (z : X). eqb (n z) day ≡ false) xs ⊎ ((z : X) × (n z ≡ day))
find n day [] = inl tt
find n day (x ∷ xs) = find-case n day x xs (find n day xs) (eqb (n x) day) refl

tied : {X : Type 0} (n : X → ℕ) (xs ys : List X) → IsStableByKey n nat_cmp xs ys → (day : ℕ) (x : X) → n x ≡ day
    → filter (λ (z : X). eqb (n z) day) ys ≡ filter (λ (z : X). eqb (n z) day) xs
tied {X = X} n xs ys stable day x same =
    let agree = (λ (z : X). ties-nat (n x) (n z) ∙ ap (eqb (n z)) same) in
    sym (filter_agree (ties (λ a b. is_lt (nat_cmp (n a) (n b))) x) (λ z. eqb (n z) day) agree ys) ∙ stable x
    ∙ filter_agree (ties (λ a b. is_lt (nat_cmp (n a) (n b))) x) (λ z. eqb (n z) day) agree xs

same-day : {X : Type 0} (n : X → ℕ) (xs ys : List X) → IsStableByKey n nat_cmp xs ys → (day : ℕ)
    → filter (λ (z : X). eqb (n z) day) ys ≡ filter (λ (z : X). eqb (n z) day) xs
same-day n xs ys stable day = by (find n day ys) (find n day xs)
  where
    by : AllByRecursion (λ z. eqb (n z) day ≡ false) ys ⊎ ((z : _) × (n z ≡ day))
        → AllByRecursion (λ z. eqb (n z) day ≡ false) xs ⊎ ((z : _) × (n z ≡ day))
        → filter (λ z. eqb (n z) day) ys ≡ filter (λ z. eqb (n z) day) xs
    by (inr one) other = tied n xs ys stable day one.0 one.1
    by (inl none) (inr one) = tied n xs ys stable day one.0 one.1
    by (inl none) (inl empty) = none-pass (λ z. eqb (n z) day) ys none ∙ sym (none-pass (λ z. eqb (n z) day) xs empty)

later : {X : Type 0} (f : X → DayRows) (x : X) (xs : List X)
    → ((k : ℕ) (d : X) → k < length xs → (f x).0 ≤ (f (get_or xs k d)).0)
    → AllByRecursion (λ (other : DayRows). (f x).0 ≤ other.0) (map f xs)
later f x [] h = tt
later f x (y ∷ ys) h = (h 0 y (omega arith), later f x ys (λ k d lt. h (suc k) d (omega arith)))

pub rising-from : {X : Type 0} (f : X → DayRows) (xs : List X) → IsNonDecreasingBy (λ (x : X). (f x).0) xs
    → AreRising (map f xs)
rising-from f [] h = tt
rising-from f (x ∷ xs) h = (
  later f x xs (λ k d lt. h 0 (suc k) d (omega arith) (omega arith)),
  rising-from f xs (λ i j d le lt. h (suc i) (suc j) d (omega arith) (omega arith)),
)

pub sorted-pieces : {X : Type 0} (f : X → DayRows) (batches : List (List Numbered)) (xs ys : List X)
    → IsStableByKey (λ (x : X). (f x).0) nat_cmp xs ys → IsPermutation xs ys → ArePieces batches (map f xs)
    → ArePieces batches (map f ys)
sorted-pieces f batches xs ys stable moved h = record {
  rows = IsPermutation-trans (rows_of_parts (map f ys)) (rows_of_parts (map f xs)) (rows_in_parts batches)
      (same-rows (length (map f ys)) (map f xs) (map f ys) (omega arith) same) h.rows;
  days = all-permutation (λ (rows : DayRows). LieInDay rows.0 rows.1) (map f xs) (map f ys)
      (IsPermutation-map f xs ys moved) h.days;
  by_day = λ day. ap (map (λ (piece : DayRows). piece.1)) (same day) ∙ h.by_day day;
}
  where
    same : (day : ℕ) → filter (is_of day) (map f ys) ≡ filter (is_of day) (map f xs)
    same day =
        filter-map f (is_of day) ys ∙ ap (map f) (same-day (λ x. (f x).0) xs ys stable day)
        ∙ sym (filter-map f (is_of day) xs)
