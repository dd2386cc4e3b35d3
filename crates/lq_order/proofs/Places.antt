-- Items with their places, sorted: each place stands there once, beside its item.
use Rattle.std.proofs.Common.{◌≡◌, ℕ, zero, suc, ◌+◌, ◌<◌, ◌≢◌, List, [], ◌∷◌, ◌++◌, map, length, get_or, take}
use Rattle.std.proofs.Common.{refl, sym, ap, subst, ◌∙◌, arith}
use Rattle.std.proofs.lemmas.List.{get_or_default, map-id, map_more, map_push}
use Rattle.std.proofs.lemmas.List.FromFn.{get_or-enumerate_from, length-enumerate_from, map-range_with_len_more}
use Rattle.std.proofs.lemmas.List.Elements.{Contains-get_or}
use Rattle.std.proofs.lemmas.List.Sorted.{All-permutation, Contains-permutation, length_permutation}
use Rattle.std.specs.List.Sorted.{IsPermutation}
use Rattle.std.specs.List.{AllByRecursion, AllPairs, Contains, enumerate_from, range_with_len}
use Rattle.std.specs.declared.cmp.Ordering.{Ordering}
use Rattle.lq_ast.proofs.Sorted.{Pairwise, all_weaker, pairs_from_pairwise, pairwise_sorted, permutation_sorted}
use Rattle.lq_ast.specs.Tuples.{sorted_by}

enumerate_push : {X : Type 0} (n : ℕ) (xs : List X) (x : X) (m : ℕ) → m ≡ n + length xs
    → enumerate_from n (xs ++ x ∷ []) ≡ enumerate_from n xs ++ (m, x) ∷ []
enumerate_push n [] x m e = let same : n ≡ m = omega arith in ap (λ k. (k, x) ∷ []) same
enumerate_push n (y ∷ ys) x m e =
    ap (λ l. (n, y) ∷ l) (enumerate_push (n + 1) ys x m (omega arith))

length_taken : {X : Type 0} (xs : List X) (i : ℕ) → i < length xs → length (take i xs) ≡ i
length_taken [] i within = absurd (omega arith)
length_taken (x ∷ xs) zero within = refl
length_taken (x ∷ xs) (suc i) within = ap suc (length_taken xs i (omega arith))

length_map : {X Y : Type 0} (f : X → Y) (xs : List X) → length (map f xs) ≡ length xs
length_map f [] = refl
length_map f (x ∷ xs) = ap suc (length_map f xs)

-- one more entry, for one more item
pub enumerate_made_more : {P X Y : Type 0} (entry : P → ℕ × Y) (make : X
    → Y) (xs : List X) (i : ℕ) (done more : List P)
    (p : P) (x d : X) → more ≡ done ++ p ∷ [] → entry p ≡ (i, make x) → x ≡ get_or xs i d → i < length xs
    → map entry done ≡ enumerate_from 0 (map make (take i xs))
    → map entry more ≡ enumerate_from 0 (map make (take (i + 1) xs))
enumerate_made_more entry make xs i done more p x d pushed is at within so_far =
    ap (map entry) pushed ∙ map_push entry done p
    ∙ ap (λ l. l ++ entry p ∷ []) so_far
    ∙ ap (λ e. enumerate_from 0 (map make (take i xs)) ++ e ∷ []) (is ∙ ap (λ y. (i, make y)) at)
    ∙ sym (enumerate_push 0 (map make (take i xs)) (make (get_or xs i d)) i
    (omega (arith, length_map make (take i xs), length_taken xs i within)))
    ∙ ap (enumerate_from 0) (sym (map_more make xs i d within))

pub enumerate_items : {X : Type 0} (n : ℕ) (xs : List X) → map (λ p. p.1) (enumerate_from n xs) ≡ xs
enumerate_items n [] = refl
enumerate_items n (x ∷ xs) = ap (λ l. x ∷ l) (enumerate_items (n + 1) xs)

pub enumerate_places : {X : Type 0} (n : ℕ) (xs : List X) → map (λ p. p.0) (enumerate_from n xs)
    ≡ range_with_len n (length xs)
enumerate_places n [] = refl
enumerate_places n (x ∷ xs) = ap (λ l. n ∷ l) (enumerate_places (n + 1) xs)

-- one more place
pub range_more : (n m k : ℕ) → n + m ≡ k → range_with_len n (m + 1) ≡ range_with_len n m ++ k ∷ []
range_more n m k is =
    sym (map-id (range_with_len n (m + 1))) ∙ map-range_with_len_more (λ p. p) n m k is
    ∙ ap (λ l. l ++ k ∷ []) (map-id (range_with_len n m))

above : {X : Type 0} (n m : ℕ) (xs : List X) → n < m → AllByRecursion (λ (p : ℕ × X). n < p.0) (enumerate_from m xs)
above n m [] h = tt
above n m (x ∷ xs) h = (h, above n (m + 1) xs (omega arith))

pub enumerate_apart : {X : Type 0} (n : ℕ) (xs : List X) → Pairwise (λ (p q : ℕ × X). p.0 ≢ q.0) (enumerate_from n xs)
enumerate_apart n [] = tt
enumerate_apart {X} n (x ∷ xs) = (
  all_weaker (λ (p : ℕ × X). n < p.0) (λ p. n ≢ p.0) (λ p below same. omega arith) (enumerate_from (n + 1) xs)
      (above n (n + 1) xs (omega arith)),
  enumerate_apart (n + 1) xs,
)

pub enumerate_each : {X : Type 0} (xs : List X) (k : ℕ) (d : ℕ × X) → k < length (enumerate_from 0 xs)
    → ((get_or (enumerate_from 0 xs) k d).0 < length xs)
    × ((e : X) → get_or xs (get_or (enumerate_from 0 xs) k d).0 e ≡ (get_or (enumerate_from 0 xs) k d).1)
enumerate_each xs k d inside =
    let within : k < length xs = omega (arith, length-enumerate_from 0 xs) in
    let is : get_or (enumerate_from 0 xs) k d ≡ (0 + k, get_or xs k d.1) = get_or-enumerate_from 0 xs k d within in
    let same : 0 + k ≡ k = omega arith in
    rw is (omega arith, λ e. ap (λ i. get_or xs i e) same ∙ get_or_default xs k e d.1 within)

module _ {X : Type 0} (order : ℕ × X → ℕ × X → Ordering) (xs : List X) where
  abbrev placed : List (ℕ × X)
  placed = sorted_by order (enumerate_from 0 xs)

  moved : IsPermutation (enumerate_from 0 xs) placed
  moved = permutation_sorted order (enumerate_from 0 xs)

  pub placed_length : length placed ≡ length xs
  placed_length = length_permutation (enumerate_from 0 xs) placed moved ∙ length-enumerate_from 0 xs

  -- each item stands beside its place
  pub placed_each : (k : ℕ) (d : ℕ × X) → k < length placed
      → ((get_or placed k d).0 < length xs) × ((e : X) → get_or xs (get_or placed k d).0 e ≡ (get_or placed k d).1)
  placed_each = All-permutation (λ p. (p.0 < length xs) × ((e : X) → get_or xs p.0 e ≡ p.1))
      (enumerate_from 0 xs) placed moved (enumerate_each xs)

  pub placed_apart : AllPairs (λ p q. p.0 ≢ q.0) placed
  placed_apart = pairs_from_pairwise (λ p q. p.0 ≢ q.0) placed
      (pairwise_sorted order (λ p q. p.0 ≢ q.0) (λ p q h e. h (sym e)) (enumerate_from 0 xs) (enumerate_apart 0 xs))

  pub placed_all : (i : ℕ) (d : X) → i < length xs → Contains placed (i, get_or xs i d)
  placed_all i d within =
      let inside : i < length (enumerate_from 0 xs) = omega (arith, length-enumerate_from 0 xs) in
      let is : get_or (enumerate_from 0 xs) i (i, d) ≡ (0 + i, get_or xs i d) = get_or-enumerate_from 0 xs i
      (i, d) within in
      Contains-permutation (enumerate_from 0 xs) placed (i, get_or xs i d) moved
      (subst (Contains (enumerate_from 0 xs)) (is ∙ ap (λ k. (k, get_or xs i d)) (omega arith))
      (Contains-get_or (enumerate_from 0 xs) i (i, d) inside))
