-- The first of many items in an order are among those that none of the others stands before.
use Rattle.std.proofs.Common.{◌≡◌, ℕ, zero, suc, ◌+◌, ◌≤◌, Bool, true, false, cond, List, []}
use Rattle.std.proofs.Common.{◌∷◌, ◌++◌, length}
use Rattle.std.proofs.Common.{get_or, inl, inr, ◌⊎◌, length-append, min, take, ◌<◌, refl}
use Rattle.std.proofs.Common.{sym, ap, ◌∙◌, arith}
use Rattle.std.proofs.lemmas.Bool.{le-leb, le-ltb}
use Rattle.std.proofs.lemmas.List.Sorted.{length_permutation, sum_by-IsPermutation}
use Rattle.std.proofs.lemmas.List.Sums.{count_by-le-length, length-filter}
use Rattle.std.proofs.lemmas.Map.Keys.{ge_from_not_lt}
use Rattle.std.specs.Bool.{nat_le, nat_lt}
use Rattle.std.specs.Cmp.{IsTotalOrder}
use Rattle.std.specs.List.{AllByRecursion, count_by, filter}
use Rattle.std.specs.List.Sorted.{IsPermutation}
use Rattle.std.specs.Ordering.{is_eq, is_gt, is_lt, nat_cmp}
use Rattle.std.specs.declared.cmp.Ordering.{Ordering}
use Rattle.lq_ast.proofs.Sorted.{Rises, all_from_places, filter_sorted, permutation_sorted, rises_same, rises_sorted}
use Rattle.lq_ast.proofs.Sorted.{split_bool}
use Rattle.lq_ast.specs.Tuples.{sorted_by}
use Rattle.lq_tuple.proofs.Once.{count_cons, count_joined, rises_filtered}
use Rattle.lq_order.specs.Groups.{IsNthGreatest}

-- ---- filters

filter_both : {A : Type 0} (p q : A → Bool) (xs : List A)
    → filter p (filter q xs) ≡ filter (λ x. cond (q x) (p x) false) xs
filter_both p q [] = refl
filter_both p q (x ∷ xs) =
    let more = filter_both p q xs in
    elim (q x) as (λ t. filter p (cond t (x ∷ filter q xs) (filter q xs))
    ≡ cond (cond t (p x) false) (x ∷ filter (λ y. cond (q y) (p y) false) xs)
    (filter (λ y. cond (q y) (p y) false) xs)) [
      | true ↦ ap (λ l. cond (p x) (x ∷ l) l) more
      | false ↦ more
    ]

both_turned : (s t : Bool) → cond s t false ≡ cond t s false
both_turned true true = refl
both_turned true false = refl
both_turned false true = refl
both_turned false false = refl

pub filter_turned : {A : Type 0} (p q : A → Bool) (xs : List A) → filter p (filter q xs) ≡ filter q (filter p xs)
filter_turned p q xs =
    filter_both p q xs ∙ (λ i. filter (λ x. both_turned (q x) (p x) i) xs) ∙ sym (filter_both q p xs)

-- ---- items in order

module _ {A : Type 0} (order : A → A → Ordering) (total : IsTotalOrder order) where
  pub sorted_filtered : (keep : A → Bool) (xs : List A)
      → sorted_by order (filter keep xs) ≡ filter keep (sorted_by order xs)
  sorted_filtered keep xs =
      rises_same order total (sorted_by order (filter keep xs)) (filter keep (sorted_by order xs))
      (rises_sorted order total (filter keep xs))
      (rises_filtered order total keep (sorted_by order xs) (rises_sorted order total xs))
      (λ x. filter_sorted order total x (filter keep xs) ∙ filter_turned (λ y. is_eq (order x y)) keep xs
      ∙ ap (filter keep) (sym (filter_sorted order total x xs))
      ∙ filter_turned keep (λ y. is_eq (order x y)) (sorted_by order xs))

  -- where what is kept stands before what is not
  module _ (keep : A → Bool) (apart : (x y : A) → keep x ≡ false → keep y ≡ true → is_gt (order x y) ≡ true) where
    none_kept : (x : A) (xs : List A) → keep x ≡ false → AllByRecursion (λ y. is_gt (order x y) ≡ false) xs
        → length (filter keep xs) ≡ 0
    none_kept x [] out up = refl
    none_kept x (y ∷ ys) out up =
        split_bool (keep y) (λ t. length (cond t (y ∷ filter keep ys) (filter keep ys)) ≡ 0)
        (λ is. let bad : true ≡ false = sym (apart x y out is) ∙ up.0 in absurd cc)
        (λ _. none_kept x ys out up.1)

    take_kept : (n : ℕ) (xs : List A) → Rises order total xs → min n (length xs) ≤ length (filter keep xs)
        → take n xs ≡ take n (filter keep xs)
    unfolding Rises
    take_kept zero xs up enough = refl
    take_kept (suc n) [] up enough = refl
    take_kept (suc n) (x ∷ xs) up enough =
        split_bool (keep x)
        (λ t. min (suc n) (length (x ∷ xs)) ≤ length (cond t (x ∷ filter keep xs) (filter keep xs))
        → take (suc n) (x ∷ xs) ≡ take (suc n) (cond t (x ∷ filter keep xs) (filter keep xs)))
        (λ _ h. ap (λ l. x ∷ l) (take_kept n xs up.1 (omega (arith, h))))
        (λ out h. let none = none_kept x xs out up.0 in absurd (omega (arith, none, h)))
        enough

    -- the first n are among those that are kept, where these are n, or all
    pub take_sorted : (n : ℕ) (xs : List A) → min n (length xs) ≤ length (filter keep xs)
        → take n (sorted_by order xs) ≡ take n (sorted_by order (filter keep xs))
    take_sorted n xs enough =
        let kept = filter keep xs in
        let whole = length_permutation xs (sorted_by order xs) (permutation_sorted order xs) in
        let some = length_permutation kept (sorted_by order kept) (permutation_sorted order kept) in
        let same = ap length (sorted_filtered keep xs) in
        take_kept n (sorted_by order xs) (rises_sorted order total xs) (omega (arith, whole, some, same, enough))
        ∙ ap (take n) (sym (sorted_filtered keep xs))

-- ---- numbers

pub count_all : {A : Type 0} (p : A → Bool) (xs : List A) → AllByRecursion (λ x. p x ≡ true) xs → count_by p xs ≡ length xs
count_all p [] h = refl
count_all p (x ∷ xs) h =
    let first = count_cons p x xs ∙ ap (λ t. cond t 1 0 + count_by p xs) h.0 in
    let more = count_all p xs h.1 in
    omega arith

pub count_none : {A : Type 0} (p : A → Bool) (xs : List A) → AllByRecursion (λ x. p x ≡ false) xs → count_by p xs ≡ 0
count_none p [] h = refl
count_none p (x ∷ xs) h =
    let first = count_cons p x xs ∙ ap (λ t. cond t 1 0 + count_by p xs) h.0 in
    let more = count_none p xs h.1 in
    omega arith

-- where there are fewer than n, or none is wanted
pub nth_none : (n : ℕ) (numbers : List ℕ) → (n ≡ 0) ⊎ (length numbers < n) → IsNthGreatest n 0 numbers
nth_none n numbers none =
    let all = count_all (nat_le 0) numbers
    (all_from_places (λ x. nat_le 0 x ≡ true) numbers (λ k d _. le-leb 0 (get_or numbers k d) (omega arith))) in
    let kept = length-filter (nat_le 0) numbers in
    let above = length-filter (nat_lt 0) numbers in
    let most = count_by-le-length (nat_lt 0) numbers in
    record {
      few = λ some. elim none [
        | inl zero_is ↦ absurd (omega (arith, zero_is, some))
        | inr short ↦ omega (arith, above, most, short)
      ];
      enough = omega (arith, all, kept);
    }

pub nth_split : (n nth : ℕ) (numbers front back : List ℕ) → IsPermutation numbers (front ++ nth ∷ back)
    → ((k : ℕ) (d : ℕ) → k < length front → is_lt (nat_cmp nth (get_or front k d)) ≡ false)
    → ((k : ℕ) (d : ℕ) → k < length back → is_lt (nat_cmp (get_or back k d) nth) ≡ false)
    → length front + n ≡ length numbers → IsNthGreatest n nth numbers
nth_split n nth numbers front back same down up few =
    let from = nat_le nth in
    let above = nat_lt nth in
    let all = count_all from back (all_from_places (λ x. from x ≡ true) back
    (λ k d within. le-leb nth (get_or back k d) (ge_from_not_lt (get_or back k d) nth (up k d within)))) in
    let none = count_none above front (all_from_places (λ x. above x ≡ false) front
    (λ k d within. le-ltb nth (get_or front k d) (ge_from_not_lt nth (get_or front k d) (down k d within)))) in
    let counts = λ (p : ℕ → Bool).
    length-filter p numbers
    ∙ sym (sum_by-IsPermutation (λ x. cond (p x) 1 0) numbers (front ++ nth ∷ back) same)
    ∙ count_joined p front (nth ∷ back) ∙ ap (λ m. count_by p front + m) (count_cons p nth back) in
    let one = ap (λ t. cond t 1 0 + count_by from back) (le-leb nth nth (omega arith)) in
    let not_one = ap (λ t. cond t 1 0 + count_by above back) (le-ltb nth nth (omega arith)) in
    let most = count_by-le-length above back in
    let long = length_permutation numbers (front ++ nth ∷ back) same in
    let sum = length-append front (nth ∷ back) in
    record {
      few = λ _. omega (arith, none, counts above, not_one, most, long, sum, few);
      enough = omega (arith, all, counts from, one, long, sum, few);
    }
