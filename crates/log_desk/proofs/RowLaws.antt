-- Rows of parts: in another order, with numbers that differ, and what those of a day weigh.
use Rattle.std.proofs.Common.{◌≡◌, inl, inr, ℕ, zero, suc, ◌<◌, true, false, List, [], ◌∷◌, ◌++◌, length, map, get_or}
use Rattle.std.proofs.Common.{set, flat_map, refl}
use Rattle.std.proofs.Common.{sym, ap, subst, ◌∙◌, arith, append_assoc}
use Rattle.std.specs.Prelude.{Bool, if◌then◌else◌, nat_lt}
use Rattle.std.specs.List.{AllByRecursion, filter, list_all, swap}
use Rattle.std.specs.List.Sorted.{IsPermutation}
use Rattle.std.proofs.lemmas.Bool.Decides.{nat_tests}
use Rattle.std.proofs.lemmas.List.{append-nil}
use Rattle.std.proofs.lemmas.List.Edits.{swap_is}
use Rattle.std.proofs.lemmas.List.Sorted.{IsPermutation-append_left, IsPermutation-append_right, IsPermutation-cons}
use Rattle.std.proofs.lemmas.List.Sorted.{IsPermutation-keeps}
use Rattle.std.proofs.lemmas.List.Sorted.{IsPermutation-map, IsPermutation-refl, IsPermutation-sym}
use Rattle.std.proofs.lemmas.List.Sorted.{IsPermutation-to_front}
use Rattle.std.proofs.lemmas.List.Sorted.{IsPermutation-trans, length_permutation, sum_by-IsPermutation}
use Rattle.log_model.specs.Batches.{AreRising, IsBefore}
use Rattle.log_model.specs.Core.{HoldsEach}
use Rattle.log_model.specs.Field.{weight}
use Rattle.log_model.specs.History.{History, Numbered, batches_in, entry_numbered, rows_in}
use Rattle.log_model.specs.Row.{Row}
use Rattle.block_format.specs.Rows.{are_numbered_apart, has_other_number}
use Rattle.day_model.specs.Days.{is_of_day, rows_of_day}
use Rattle.part_model.specs.Part.{rows_weight}
use Rattle.merge_plan.specs.Planned.{day_rows, has_rows}
use Rattle.log_desk.specs.Keeping.{rows_of_each}
use Rattle.log_desk.proofs.TurnLaws.{rows}

-- ---- in another order

module _ {Y : Type 0} where
  comm : (a b : List Y) → IsPermutation (a ++ b) (b ++ a)
  comm [] b = subst (IsPermutation b) (sym (append-nil b)) (IsPermutation-refl b)
  comm (x ∷ a) b =
      IsPermutation-trans (x ∷ (a ++ b)) (x ∷ (b ++ a)) (b ++ x ∷ a) (IsPermutation-cons x (a ++ b) (b ++ a) (comm a b))
      (subst (IsPermutation (x ∷ (b ++ a))) (append_assoc b (x ∷ []) a)
      (IsPermutation-append_left a (x ∷ b) (b ++ x ∷ []) (IsPermutation-sym (b ++ x ∷ []) (x ∷ b)
      (IsPermutation-to_front b x))))

  -- two lists before a third
  two : (a b c : List Y) → IsPermutation (a ++ (b ++ c)) (b ++ (a ++ c))
  two a b c =
      subst (λ l. IsPermutation l (b ++ (a ++ c))) (append_assoc a b c)
      (subst (IsPermutation ((a ++ b) ++ c)) (append_assoc b a c)
      (IsPermutation-append_left c (a ++ b) (b ++ a) (comm a b)))

module _ {X Y : Type 0} (f : X → List Y) where
  -- one element in place of another
  replaced : (l : List X) (k : ℕ) (x d : X) → k < length l
      → IsPermutation (f x ++ flat_map f l) (f (get_or l k d) ++ flat_map f (set l k x))
  replaced [] k x d lt = absurd (omega arith)
  replaced (y ∷ l) zero x d lt = two (f x) (f y) (flat_map f l)
  replaced (z ∷ l) (suc k) x d lt =
      let y = get_or l k d in
      IsPermutation-trans (f x ++ (f z ++ flat_map f l)) (f z ++ (f x ++ flat_map f l)) (f y ++ (f z ++ flat_map f
      (set l k x)))
      (two (f x) (f z) (flat_map f l))
      (IsPermutation-trans (f z ++ (f x ++ flat_map f l)) (f z ++ (f y ++ flat_map f (set l k x)))
      (f y ++ (f z ++ flat_map f (set l k x)))
      (IsPermutation-append_right (f z) (f x ++ flat_map f l) (f y ++ flat_map f (set l k x)) (replaced l k x d
      (omega arith)))
      (two (f z) (f y) (flat_map f (set l k x))))

  exchanged : (l : List X) (i j : ℕ) (d : X) → i < length l → j < length l
      → IsPermutation (flat_map f l) (flat_map f (set (set l i (get_or l j d)) j (get_or l i d)))
  exchanged [] i j d lt lu = absurd (omega arith)
  exchanged (x ∷ l) zero zero d lt lu = IsPermutation-refl (f x ++ flat_map f l)
  exchanged (x ∷ l) zero (suc k) d lt lu = replaced l k x d (omega arith)
  exchanged (x ∷ l) (suc k) zero d lt lu = replaced l k x d (omega arith)
  exchanged (z ∷ l) (suc i) (suc j) d lt lu =
      IsPermutation-append_right (f z) (flat_map f l) (flat_map f (set (set l i (get_or l j d)) j (get_or l i d)))
      (exchanged l i j d (omega arith) (omega arith))

  -- What the elements of a list give together is the same in another order.
  pub permuted : (xs ys : List X) → IsPermutation xs ys → IsPermutation (flat_map f xs) (flat_map f ys)
  permuted xs ys = IsPermutation-keeps xs (λ l. IsPermutation (flat_map f xs) (flat_map f l))
      (IsPermutation-refl (flat_map f xs)) (λ l i j p q h.
      IsPermutation-trans (flat_map f xs) (flat_map f l) (flat_map f (swap l i j)) h (once l i j p q)) ys
    where
      once : (l : List X) (i j : ℕ) → i < length l → j < length l → IsPermutation (flat_map f l) (flat_map f
          (swap l i j))
      once [] i j p q = absurd (omega arith)
      once (x ∷ l) i j p q =
          subst (λ m. IsPermutation (flat_map f (x ∷ l)) (flat_map f m)) (swap_is (x ∷ l) i j x p q)
          (exchanged (x ∷ l) i j x p q)

-- ---- numbers that differ

other : (a b : Numbered) → IsBefore a b → has_other_number a b ≡ true
other a b (inl lt) = grind (arith, nat_tests)
other a b (inr (same, lt)) = grind (arith, nat_tests)

others : (a : Numbered) (list : List Numbered) → AllByRecursion (IsBefore a) list → list_all
    (has_other_number a) list ≡ true
others a [] h = refl
others a (b ∷ list) h = let first = other a b h.0 in let rest = others a list h.1 in rw (first, rest) refl

-- Rows that rise have numbers that differ.
pub rising_apart : (list : List Numbered) → AreRising list → are_numbered_apart list ≡ true
rising_apart [] h = refl
rising_apart (a ∷ list) h =
    let first = others a list h.0 in let rest = rising_apart list h.1 in rw (first, rest) refl

-- ---- what the rows of a day weigh

abbrev one_of : {X : Type 0} → (X → Bool) → X → List X
one_of p x = if p x then x ∷ [] else []

filter_flat : {X : Type 0} (p : X → Bool) (xs : List X) → filter p xs ≡ flat_map (one_of p) xs
filter_flat p [] = refl
filter_flat p (x ∷ xs) = let rest = filter_flat p xs in by (p x) rest
  where
    by : (t : Bool) → filter p xs ≡ flat_map (one_of p) xs
        → (if t then x ∷ filter p xs else filter p xs) ≡ (if t then x ∷ [] else []) ++ flat_map (one_of p) xs
    by true same = ap (λ l. x ∷ l) same
    by false same = same

same_day : (day : ℕ) (xs ys : List Numbered) → IsPermutation xs ys → IsPermutation (rows_of_day day xs)
    (rows_of_day day ys)
same_day day xs ys same =
    subst (λ l. IsPermutation l (rows_of_day day ys)) (sym (filter_flat (is_of_day day) xs))
    (subst (IsPermutation (flat_map (one_of (is_of_day day)) xs)) (sym (filter_flat (is_of_day day) ys))
    (permuted (one_of (is_of_day day)) xs ys same))

same_weight : (xs ys : List Numbered) → IsPermutation xs ys → rows_weight ys ≡ rows_weight xs
same_weight xs ys same =
    sum_by-IsPermutation (λ (row : Row). weight row.fields) (rows_in xs) (rows_in ys)
    (IsPermutation-map (λ (n : Numbered). n.row) xs ys same)

-- The rows of a batch in another order weigh as much on each day.
day_weights_on : (xs ys : List Numbered) (ps qs : List (List Numbered)) → length xs ≡ length ys
    → rows_weight xs ≡ rows_weight ys → map rows_weight (filter has_rows ps) ≡ map rows_weight (filter has_rows qs)
    → map rows_weight (filter has_rows (xs ∷ ps)) ≡ map rows_weight (filter has_rows (ys ∷ qs))
day_weights_on xs ys ps qs long same rest =
    ap (λ (n : ℕ). map rows_weight (if nat_lt 0 n then xs ∷ filter has_rows ps else filter has_rows ps)) long
    ∙ by (nat_lt 0 (length ys))
  where
    by : (t : Bool) → map rows_weight (if t then xs ∷ filter has_rows ps else filter has_rows ps)
        ≡ map rows_weight (if t then ys ∷ filter has_rows qs else filter has_rows qs)
    by true = ap (λ (n : ℕ). n ∷ map rows_weight (filter has_rows ps)) same ∙ ap (λ
        (l : List ℕ). rows_weight ys ∷ l) rest
    by false = rest

-- Parts that each hold an entry weigh as much on each day as its rows.
pub day_weights : (day count : ℕ) (parts : List (List Numbered)) (entries : History)
    → HoldsEach rows count parts entries
    → map rows_weight (day_rows day parts) ≡ map rows_weight (day_rows day (rows_of_each count (batches_in entries)))
day_weights day count [] [] each = refl
day_weights day count (part ∷ parts) (entry ∷ entries) each =
    let same = same_day day part (entry_numbered (suc count) entry) each.0 in
    day_weights_on (rows_of_day day part) (rows_of_day day (entry_numbered (suc count) entry)) (map
    (rows_of_day day) parts)
    (map (rows_of_day day) (rows_of_each (suc count) (batches_in entries)))
    (sym (length_permutation _ _ same)) (sym (same_weight _ _ same)) (day_weights day (suc count) parts entries each.1)
day_weights day count [] (entry ∷ entries) each = absurd each
day_weights day count (part ∷ parts) [] each = absurd each
