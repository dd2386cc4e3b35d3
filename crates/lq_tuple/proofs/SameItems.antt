-- What keeps the items of lists the same, and what is then the same of them.
use Rattle.std.proofs.Common.{◌≡◌, ℕ, ◌+◌, Bool, true, false, cond, List, [], ◌∷◌, ◌++◌, length, map, flat_map, filter}
use Rattle.std.proofs.Common.{ℤ, pos, ◌+ℤ◌, Option, Some, None, refl, sym, ap, ◌∙◌, arith}
use Rattle.std.proofs.lemmas.Int.{ints}
use Rattle.std.proofs.lemmas.List.Sorted.{sum_by-IsPermutation}
use Rattle.std.proofs.lemmas.List.Sums.{sum_by-cons, sum_by-append}
use Rattle.std.specs.List.{cons_option, count_by, filter_map, fold, sum_by}
use Rattle.std.specs.List.Sorted.{IsPermutation}
use Rattle.std.specs.Option.{option_map_or}
use borrow.Author.Differences.{up, down}
use Rattle.lq_tuple.specs.SameItems.{HaveSameItems}

-- ---- the sums of lists that are made of others

sum_made : {A B : Type 0} (f : B → ℕ) (g : A → B) (xs : List A) → sum_by f (map g xs) ≡ sum_by (λ x. f (g x)) xs
sum_made f g [] = refl
sum_made f g (x ∷ xs) =
    sum_by-cons f (g x) (map g xs) ∙ ap (λ n. f (g x) + n) (sum_made f g xs)
    ∙ sym (sum_by-cons (λ y. f (g y)) x xs)

sum_filtered : {A : Type 0} (f : A → ℕ) (keep : A → Bool) (xs : List A)
    → sum_by f (filter keep xs) ≡ sum_by (λ x. cond (keep x) (f x) 0) xs
sum_filtered f keep [] = refl
sum_filtered f keep (x ∷ xs) =
    at (keep x) (sum_filtered f keep xs) ∙ sym (sum_by-cons (λ y. cond (keep y) (f y) 0) x xs)
  where
    at : (t : Bool) → sum_by f (filter keep xs) ≡ sum_by (λ x. cond (keep x) (f x) 0) xs
        → sum_by f (cond t (x ∷ filter keep xs) (filter keep xs))
        ≡ cond t (f x) 0 + sum_by (λ y. cond (keep y) (f y) 0) xs
    at true more = sum_by-cons f x (filter keep xs) ∙ ap (λ n. f x + n) more
    at false more = omega (arith, more)

sum_mapped : {A B : Type 0} (f : B → ℕ) (g : A → Option B) (xs : List A)
    → sum_by f (filter_map g xs) ≡ sum_by (λ x. option_map_or f (g x) 0) xs
sum_mapped f g [] = refl
sum_mapped {B = B} f g (x ∷ xs) =
    at (g x) (sum_mapped f g xs) ∙ sym (sum_by-cons (λ y. option_map_or f (g y) 0) x xs)
  where
    at : (o : Option B) → sum_by f (filter_map g xs) ≡ sum_by (λ x. option_map_or f (g x) 0) xs
        → sum_by f (cons_option o (filter_map g xs))
        ≡ option_map_or f o 0 + sum_by (λ y. option_map_or f (g y) 0) xs
    at (Some y) more = sum_by-cons f y (filter_map g xs) ∙ ap (λ n. f y + n) more
    at None more = omega (arith, more)

-- ---- what keeps items the same

module _ {A : Type 0} where
  pub same_itself : (xs : List A) → HaveSameItems xs xs
  same_itself xs = record { sums = λ f. refl }

  pub same_turned : (xs ys : List A) → HaveSameItems xs ys → HaveSameItems ys xs
  same_turned xs ys h = record { sums = λ f. sym (h.sums f) }

  pub same_through : (xs ys zs : List A) → HaveSameItems xs ys → HaveSameItems ys zs → HaveSameItems xs zs
  same_through xs ys zs h k = record { sums = λ f. h.sums f ∙ k.sums f }

  pub same_permuted : (xs ys : List A) → IsPermutation xs ys → HaveSameItems xs ys
  same_permuted xs ys h = record { sums = λ f. sym (sum_by-IsPermutation f xs ys h) }

  pub same_joined : (xs ys us vs : List A) → HaveSameItems xs ys → HaveSameItems us vs
      → HaveSameItems (xs ++ us) (ys ++ vs)
  same_joined xs ys us vs h k = record {
    sums = λ f.
        sum_by-append f xs us ∙ ap (λ n. n + sum_by f us) (h.sums f) ∙ ap (λ n. sum_by f ys + n) (k.sums f)
        ∙ sym (sum_by-append f ys vs);
  }

  pub same_swapped : (xs ys : List A) → HaveSameItems (xs ++ ys) (ys ++ xs)
  same_swapped xs ys = record {
    sums = λ f.
        let one = sum_by-append f xs ys in
        let other = sum_by-append f ys xs in
        omega arith;
  }

  pub same_filtered : (keep : A → Bool) (xs ys : List A) → HaveSameItems xs ys
      → HaveSameItems (filter keep xs) (filter keep ys)
  same_filtered keep xs ys h = record {
    sums = λ f.
        sum_filtered f keep xs ∙ h.sums (λ x. cond (keep x) (f x) 0) ∙ sym (sum_filtered f keep ys);
  }

  -- ---- what is the same of them

  pub same_counts : (xs ys : List A) → HaveSameItems xs ys → (p : A → Bool) → count_by p xs ≡ count_by p ys
  same_counts xs ys h p = h.sums (λ x. cond (p x) 1 0)

  length_is : (xs : List A) → sum_by (λ x. 1) xs ≡ length xs
  length_is [] = refl
  length_is (x ∷ xs) =
      let one = sum_by-cons (λ x. 1) x xs in
      let more = length_is xs in
      omega arith

  pub same_length : (xs ys : List A) → HaveSameItems xs ys → length xs ≡ length ys
  same_length xs ys h = sym (length_is xs) ∙ h.sums (λ x. 1) ∙ length_is ys

module _ {A B : Type 0} where
  pub same_made : (g : A → B) (xs ys : List A) → HaveSameItems xs ys → HaveSameItems (map g xs) (map g ys)
  same_made g xs ys h = record { sums = λ f. sum_made f g xs ∙ h.sums (λ x. f (g x)) ∙ sym (sum_made f g ys) }

  pub same_mapped : (g : A → Option B) (xs ys : List A) → HaveSameItems xs ys
      → HaveSameItems (filter_map g xs) (filter_map g ys)
  same_mapped g xs ys h = record {
    sums = λ f. sum_mapped f g xs ∙ h.sums (λ x. option_map_or f (g x) 0) ∙ sym (sum_mapped f g ys);
  }

  -- lists that have the same items for each of some things
  pub same_flat : (f g : A → List B) → ((x : A) → HaveSameItems (f x) (g x)) → (xs : List A)
      → HaveSameItems (flat_map f xs) (flat_map g xs)
  same_flat f g h [] = same_itself []
  same_flat f g h (x ∷ xs) = same_joined (f x) (g x) (flat_map f xs) (flat_map g xs) (h x) (same_flat f g h xs)

-- ---- sums of integers

total_from : (a : ℤ) (ns : List ℤ)
    → up (fold (λ sum n. sum +ℤ n) a ns) + (down a + sum_by down ns)
    ≡ down (fold (λ sum n. sum +ℤ n) a ns) + (up a + sum_by up ns)
total_from a [] = omega (arith, ints)
total_from a (n ∷ ns) =
    let more = total_from (a +ℤ n) ns in
    let ups = sum_by-cons up n ns in
    let downs = sum_by-cons down n ns in
    omega (arith, ints)

pub same_total : (ms ns : List ℤ) → HaveSameItems ms ns
    → fold (λ sum n. sum +ℤ n) (pos 0) ms ≡ fold (λ sum n. sum +ℤ n) (pos 0) ns
same_total ms ns h =
    let one = total_from (pos 0) ms in
    let other = total_from (pos 0) ns in
    let ups = h.sums up in
    let downs = h.sums down in
    omega (arith, ints)
