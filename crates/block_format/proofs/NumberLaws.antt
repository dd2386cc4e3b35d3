-- Whether no number is there twice.
use Rattle.std.proofs.Common.{◌≡◌, ℕ, ◌+◌, ◌-◌, ◌<◌, ◌≤◌, Bool, true, false, eqb, List, [], ◌∷◌, length, map}
use Rattle.std.proofs.Common.{get_or, refl, sym, ap, ◌∙◌, arith}
use Rattle.std.specs.Prelude.{◌&&◌, ◌↔◌, IsTrue, not}
use Rattle.std.specs.Cmp.{IsTotalOrder}
use Rattle.std.specs.List.{AllAdjacentBelow, AllByRecursion, IsDistinct, list_all}
use Rattle.std.specs.List.Sorted.{IsPermutation, IsSorted, IsStrictlySortedBy}
use Rattle.std.specs.Ordering.{eq_by_cmp, is_eq, is_lt, nat_cmp, ordering_then}
use Rattle.std.specs.declared.cmp.Ordering.TheVariants.{Less}
use Rattle.std.proofs.lemmas.Bool.{both_ways}
use Rattle.std.proofs.lemmas.Bool.Decides.{nat_tests}
use Rattle.std.proofs.lemmas.Cmp.{nat_cmp_total, on_total, then_total}
use Rattle.std.proofs.lemmas.List.Sorted.{IsPermutation-sym}
use Rattle.std.proofs.lemmas.Map.Keys.{IsDistinct-IsPermutation, IsDistinct-from_sorted}
use Rattle.std.proofs.lemmas.Map.Keys.{apart_from_distinct, sorted_from_all_adjacent}
use Rattle.byte_format.proofs.Cases.{both_true}
use Rattle.log_model.specs.History.{Numbered}
use Rattle.block_format.specs.Rows.{are_numbered_apart, has_other_number, number_cmp, number_of}
use Rattle.block_format.proofs.TestLaws.{both_from}

-- ---- the order of numbers

number_total : IsTotalOrder number_cmp
number_total = then_total (on_total (λ (n : ℕ × ℕ). n.0) nat_cmp_total) (on_total (λ (n : ℕ × ℕ). n.1) nat_cmp_total)

less-test : (a b c d : ℕ) → is_lt (ordering_then (nat_cmp a c) (nat_cmp b d)) ≡ false
    → (eqb a c && eqb b d) ≡ false → ordering_then (nat_cmp c a) (nat_cmp d b) ≡ Less
less-test a b c d h e = grind (arith, nat_tests)

equal-test : (a b c d : ℕ) → is_eq (ordering_then (nat_cmp a c) (nat_cmp b d)) ≡ (eqb a c && eqb b d)
equal-test a b c d = grind (arith, nat_tests)

equal-back : (a b c d : ℕ) → (eqb a c && eqb b d) ≡ (eqb c a && eqb d b)
equal-back a b c d = grind (arith, nat_tests)

abbrev same_number : ℕ × ℕ → ℕ × ℕ → Bool
same_number = eq_by_cmp number_cmp

flips : (x y : ℕ × ℕ) → same_number x y ≡ same_number y x
flips x y = equal-test x.0 x.1 y.0 y.1 ∙ equal-back x.0 x.1 y.0 y.1 ∙ sym (equal-test y.0 y.1 x.0 x.1)

-- ---- numbers in order

-- one more that is not the one before
pub rises : (x y : ℕ × ℕ) → is_lt (number_cmp y x) ≡ false → (eqb x.0 y.0 && eqb x.1 y.1) ≡ false
    → number_cmp x y ≡ Less
rises x y h e = less-test y.0 y.1 x.0 x.1 h (equal-back y.0 y.1 x.0 x.1 ∙ e)

pub rising : (numbers : List (ℕ × ℕ)) (n : ℕ) → length numbers ≤ n
    → AllAdjacentBelow (λ x y. number_cmp x y ≡ Less) numbers n → IsStrictlySortedBy number_cmp numbers
rising numbers n le h =
    sorted_from_all_adjacent number_total numbers (0, 0) (λ k lt. h k (0, 0) (omega (arith, lt, le)))

-- two that are one break the order
pub not-rising : (numbers : List (ℕ × ℕ)) (i : ℕ) (d : ℕ × ℕ) → 1 ≤ i → i < length numbers
    → (get_or numbers (i - 1) d).0 ≡ (get_or numbers i d).0 → (get_or numbers (i - 1) d).1 ≡ (get_or numbers i d).1
    → IsStrictlySortedBy number_cmp numbers → ⊥
not-rising numbers i d some lt a b sorted =
    let x : ℕ × ℕ = get_or numbers (i - 1) d in
    let y : ℕ × ℕ = get_or numbers i d in
    let apart = apart_from_distinct same_number numbers (i - 1) i d (IsDistinct-from_sorted number_cmp numbers sorted)
    (omega arith) lt in
    both_ways (same_number (get_or numbers (i - 1) d) (get_or numbers i d)) apart (equal-test x.0 x.1 y.0 y.1
    ∙ alike x.0 x.1 y.0 y.1 a b)
  where
    alike : (m n k l : ℕ) → m ≡ k → n ≡ l → (eqb m k && eqb n l) ≡ true
    alike m n k l p q = grind (arith, nat_tests)

-- ---- rows

other-is : (a b : Numbered) → has_other_number a b ≡ not (same_number (number_of a) (number_of b))
other-is a b = ap not (sym (equal-test a.batch a.place b.batch b.place))

not-true : (a : Bool) → not a ≡ true → a ≡ false
not-true true e = absurd cc
not-true false e = refl

others-differ : (a : Numbered) (rows : List Numbered) → list_all (has_other_number a) rows ≡ true
    → AllByRecursion (λ y. same_number (number_of a) y ≡ false) (map number_of rows)
others-differ a [] e = tt
others-differ a (b ∷ rows) e =
    let p = both_true (has_other_number a b) (list_all (has_other_number a) rows) e in
    (not-true (same_number (number_of a) (number_of b)) (sym (other-is a b) ∙ p.0), others-differ a rows p.1)

differ-others : (a : Numbered) (rows : List Numbered)
    → AllByRecursion (λ y. same_number (number_of a) y ≡ false) (map number_of rows)
    → list_all (has_other_number a) rows ≡ true
differ-others a [] h = refl
differ-others a (b ∷ rows) h =
    both_from (has_other_number a b) (list_all (has_other_number a) rows) (other-is a b ∙ ap not h.0) (differ-others a
    rows h.1)

apart-distinct : (rows : List Numbered) → are_numbered_apart rows ≡ true → IsDistinct same_number (map number_of rows)
unfolding IsDistinct
apart-distinct [] e = tt
apart-distinct (a ∷ rows) e =
    let p = both_true (list_all (has_other_number a) rows) (are_numbered_apart rows) e in
    (others-differ a rows p.0, apart-distinct rows p.1)

distinct-apart : (rows : List Numbered) → IsDistinct same_number (map number_of rows) → are_numbered_apart rows ≡ true
unfolding IsDistinct
distinct-apart [] h = refl
distinct-apart (a ∷ rows) h =
    both_from (list_all (has_other_number a) rows) (are_numbered_apart rows) (differ-others a rows h.0) (distinct-apart
    rows h.1)

-- numbers in order rise exactly where no row has the number of another
pub apart : (rows : List Numbered) (numbers : List (ℕ × ℕ)) → IsPermutation (map number_of rows) numbers
    → IsStrictlySortedBy number_cmp numbers → are_numbered_apart rows ≡ true
apart rows numbers same sorted =
    distinct-apart rows (IsDistinct-IsPermutation same_number flips numbers (map number_of rows) (IsPermutation-sym
    (map number_of rows) numbers same) (IsDistinct-from_sorted number_cmp numbers sorted))

strict : (numbers : List (ℕ × ℕ)) → IsSorted number_cmp numbers → IsDistinct same_number numbers
    → IsStrictlySortedBy number_cmp numbers
strict numbers sorted distinct =
    sorted_from_all_adjacent number_total numbers (0, 0) (λ k lt.
    let x : ℕ × ℕ = get_or numbers k (0, 0) in
    let y : ℕ × ℕ = get_or numbers (k + 1) (0, 0) in
    rises (get_or numbers k (0, 0)) (get_or numbers (k + 1) (0, 0)) (sorted k (0, 0) (omega arith) lt)
    (sym (equal-test x.0 x.1 y.0 y.1) ∙ apart_from_distinct same_number numbers k (k + 1) (0, 0) distinct (omega arith)
    lt))

pub apart-rises : (rows : List Numbered) (numbers : List (ℕ × ℕ)) → IsPermutation (map number_of rows) numbers
    → IsSorted number_cmp numbers → are_numbered_apart rows ≡ true → IsStrictlySortedBy number_cmp numbers
apart-rises rows numbers same sorted e =
    strict numbers sorted (IsDistinct-IsPermutation same_number flips (map number_of rows) numbers same
    (apart-distinct rows e))

-- so the test on the numbers is that on the rows
pub apart-is : (b : Bool) (rows : List Numbered) (numbers : List (ℕ × ℕ)) → IsPermutation (map number_of rows) numbers
    → IsSorted number_cmp numbers → (IsTrue b ↔ IsStrictlySortedBy number_cmp numbers) → b ≡ are_numbered_apart rows
apart-is b rows numbers same sorted h = by b refl (are_numbered_apart rows) refl
  where
    by : (t : Bool) → b ≡ t → (a : Bool) → are_numbered_apart rows ≡ a → t ≡ a
    by true e true f = refl
    by true e false f = absurd (both_ways (are_numbered_apart rows) f (apart rows numbers same (h.0 e)))
    by false e true f = absurd (both_ways b e (h.1 (apart-rises rows numbers same sorted f)))
    by false e false f = refl
