-- The rows that are held have one order, and tell the batches of the history.
use Rattle.std.proofs.Common.{◌≡◌, ◌⊎◌, inl, inr, ℕ, suc, ◌<◌, List, [], ◌∷◌, ◌++◌, flat_map, drop, get_or, length}
use Rattle.std.proofs.Common.{refl, sym, ap, subst, ◌∙◌, arith}
use Rattle.std.proofs.lemmas.List.{length-map}
use Rattle.std.proofs.lemmas.List.Elements.{All-from_recursion, recursion_from_All}
use Rattle.std.proofs.lemmas.List.Sorted.{All-permutation, IsPermutation-sym, IsPermutation-trans}
use Rattle.std.specs.List.{AllByRecursion}
use Rattle.std.specs.List.Sorted.{IsPermutation}
use Rattle.log_model.specs.Batches.{AreRising, IsBefore, batch_rows_after}
use Rattle.log_model.specs.Core.{Contents, Stands, parts_of}
use Rattle.log_model.specs.History.{History, Numbered, batches_in, entry_rows, numbered, numbered_from}
use Rattle.log_model.specs.Row.{Batch, Row}
use Rattle.log_model.proofs.Joining.{all_after, numbered_batches, numbered_rising, parts_joined}

-- ---- one order

-- what holds of each of the first holds of each of the others
abbrev pub HaveAllOf : List Numbered → List Numbered → Type 1
HaveAllOf xs ys = (P : Numbered → Type 0) → AllByRecursion P xs → AllByRecursion P ys

both_ways : (x y : Numbered) → IsBefore x y → IsBefore y x → ⊥
both_ways x y (inl a) (inl b) = omega arith
both_ways x y (inl a) (inr b) = let same = b.0 in omega arith
both_ways x y (inr a) (inl b) = let same = a.0 in omega arith
both_ways x y (inr a) (inr b) = let m = a.1 in let n = b.1 in omega arith

first_too : (x : Numbered) (xs : List Numbered) → AllByRecursion (IsBefore x) xs
    → AllByRecursion (λ z. (z ≡ x) ⊎ IsBefore x z) xs
first_too x [] h = tt
first_too x (z ∷ xs) h = (inr h.0, first_too x xs h.1)

first_same : (x y : Numbered) → (y ≡ x) ⊎ IsBefore x y → (x ≡ y) ⊎ IsBefore y x → x ≡ y
first_same x y (inl e) k = sym e
first_same x y (inr b) (inl e) = e
first_same x y (inr b) (inr c) = absurd (both_ways x y b c)

not_itself : (x z : Numbered) → IsBefore x z → z ≡ x → ⊥
not_itself x z before same = both_ways x x (subst (IsBefore x) same before) (subst (IsBefore x) same before)

all_but : (P : Numbered → Type 0) (x : Numbered) (zs : List Numbered) → AllByRecursion (IsBefore x) zs
    → AllByRecursion (λ z. (z ≡ x) ⊎ P z) zs → AllByRecursion P zs
all_but P x [] later h = tt
all_but P x (z ∷ zs) later h = (pick h.0, all_but P x zs later.1 h.1)
  where
    pick : (z ≡ x) ⊎ P z → P z
    pick (inl e) = absurd (not_itself x z later.0 e)
    pick (inr p) = p

or_all : (P : Numbered → Type 0) (x : Numbered) (zs : List Numbered) → AllByRecursion P zs
    → AllByRecursion (λ z. (z ≡ x) ⊎ P z) zs
or_all P x [] h = tt
or_all P x (z ∷ zs) h = (inr h.0, or_all P x zs h.1)

rest_has : (x y : Numbered) (xs ys : List Numbered) → x ≡ y → AllByRecursion (IsBefore y) ys
    → HaveAllOf (x ∷ xs) (y ∷ ys) → HaveAllOf xs ys
rest_has x y xs ys same later all P h =
    let Q : Numbered → Type 0 = λ z. (z ≡ x) ⊎ P z in
    all_but P x ys (subst (λ w. AllByRecursion (IsBefore w) ys) (sym same) later) (all Q (inl refl, or_all P x xs h)).1

pub one_order : (xs ys : List Numbered) → AreRising xs → AreRising ys → HaveAllOf xs ys → HaveAllOf ys xs → xs ≡ ys
one_order [] [] rx ry there back = refl
one_order [] (y ∷ ys) rx ry there back = absurd (there (λ z. ⊥) tt).0
one_order (x ∷ xs) [] rx ry there back = absurd (back (λ z. ⊥) tt).0
one_order (x ∷ xs) (y ∷ ys) rx ry there back =
    let same : x ≡ y =
    first_same x y (there (λ z. (z ≡ x) ⊎ IsBefore x z) (inl refl, first_too x xs rx.0)).0
    (back (λ z. (z ≡ y) ⊎ IsBefore y z) (inl refl, first_too y ys ry.0)).0 in
    ap (λ z. z ∷ xs) same
    ∙ ap (λ l. y ∷ l) (one_order xs ys rx.1 ry.1 (rest_has x y xs ys same ry.0 there)
    (rest_has y x ys xs (sym same) rx.0 back))

have_all : (xs ys : List Numbered) → IsPermutation xs ys → HaveAllOf xs ys
have_all xs ys same P all = recursion_from_All P ys (All-permutation P xs ys same (All-from_recursion P xs all))

-- The same rows in order are one list.
pub same_rows : (xs ys : List Numbered) → AreRising xs → AreRising ys → IsPermutation xs ys → xs ≡ ys
same_rows xs ys rx ry same =
    one_order xs ys rx ry (have_all xs ys same) (have_all ys xs (IsPermutation-sym xs ys same))

-- ---- rows and batches

module _ (n : ℕ) where
  -- not the first of rows of later batches
  not_later : {X : Type 0} (k : ℕ) (row : Row) (rest xs : List Numbered)
      → AllByRecursion (λ (other : Numbered). n < other.batch) xs
      → record { batch = n; place = k; row = row } ∷ rest ≡ xs → X
  not_later k row rest [] later same =
      let long : suc (length rest) ≡ 0 = ap length same in absurd (omega (arith, long))
  not_later k row rest (x ∷ xs) later same =
      let batch : n ≡ x.batch = ap (λ (l : List Numbered). (get_or l 0 x).batch) same in
      absurd (omega (arith, batch, later.0))

  -- rows of one batch, and rows of later batches after them
  cut_same : (k : ℕ) (rows more : List Row) (xs ys : List Numbered)
      → AllByRecursion (λ (other : Numbered). n < other.batch) xs
      → AllByRecursion (λ (other : Numbered). n < other.batch) ys
      → numbered_from n k rows ++ xs ≡ numbered_from n k more ++ ys → (rows ≡ more) × (xs ≡ ys)
  cut_same k [] [] xs ys a b same = (refl, same)
  cut_same k [] (m ∷ ms) xs ys a b same = not_later k m (numbered_from n (suc k) ms ++ ys) xs a (sym same)
  cut_same k (r ∷ rs) [] xs ys a b same = not_later k r (numbered_from n (suc k) rs ++ xs) ys b same
  cut_same k (r ∷ rs) (m ∷ ms) xs ys a b same =
      let d : Numbered = record { batch = n; place = k; row = r } in
      let first : r ≡ m = ap (λ (l : List Numbered). (get_or l 0 d).row) same in
      let rest = cut_same (suc k) rs ms xs ys a b (ap (drop 1) same) in
      (ap (λ (row : Row). row ∷ rs) first ∙ ap (λ (l : List Row). m ∷ l) rest.0, rest.1)

above : (count : ℕ) (batches : List Batch)
    → AllByRecursion (λ (row : Numbered). suc count < row.batch) (batch_rows_after (suc count) batches)
above count batches = all_after (λ (row : Numbered). suc count < row.batch) (suc count) batches (λ n k row after. after)

-- As many batches with the same rows are the same.
same_batches : (count : ℕ) (xs ys : List Batch) → length xs ≡ length ys
    → batch_rows_after count xs ≡ batch_rows_after count ys → xs ≡ ys
same_batches count [] [] long same = refl
same_batches count [] (y ∷ ys) long same = absurd (omega (arith, long))
same_batches count (x ∷ xs) [] long same = absurd (omega (arith, long))
same_batches count (x ∷ xs) (y ∷ ys) long same =
    let both = cut_same (suc count) 0 x y (batch_rows_after (suc count) xs) (batch_rows_after (suc count) ys)
    (above count xs) (above count ys) same in
    ap (λ (batch : Batch). batch ∷ xs) both.0
    ∙ ap (λ (l : List Batch). y ∷ l) (same_batches (suc count) xs ys (omega (arith, long)) both.1)

-- All histories for which what is held stands have the same batches.
pub one_history : {P : Type 0} (rows : P → List Numbered) (held : Contents P) (a b : History) → Stands rows held a
    → Stands rows held b → batches_in a ≡ batches_in b
one_history rows held a b first second =
    let joined = flat_map rows (parts_of held) in
    let moved : IsPermutation (numbered a) (numbered b) = IsPermutation-trans (numbered a) joined (numbered b)
    (IsPermutation-sym joined (numbered a) (parts_joined rows held a first)) (parts_joined rows held b second) in
    let same : numbered a ≡ numbered b =
    same_rows (numbered a) (numbered b) (numbered_rising a) (numbered_rising b) moved in
    same_batches 0 (batches_in a) (batches_in b)
    (omega (arith, length-map a entry_rows, length-map b entry_rows, first.counted, second.counted))
    (sym (numbered_batches a) ∙ same ∙ numbered_batches b)
