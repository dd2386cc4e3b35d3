-- The records of places that stand in the order of the records.
use Rattle.std.proofs.Common.{◌≡◌, ◌≢◌, ℕ, zero, suc, ◌<◌, ◌≤◌, List, [], ◌∷◌, map, length, get_or, take}
use Rattle.std.proofs.Common.{drop}
use Rattle.std.proofs.Common.{Option, Some, None, refl, sym, ap, ◌∙◌}
use Rattle.std.specs.List.{AllByRecursion, enumerate_from, range_with_len}
use Rattle.std.specs.Ordering.{on}
use Rattle.std.specs.declared.cmp.Ordering.{Ordering}
use Rattle.lq_ast.proofs.Sorted.{Pairwise, all_at, all_from_places, map_sorted, pairs_from_pairwise, pairwise_sorted}
use Rattle.lq_ast.proofs.Sorted.{all_sorted, all_weaker, sorted_alike}
use Rattle.lq_ast.specs.Records.{Record}
use Rattle.lq_ast.specs.Tuples.{sorted_by}
use Rattle.lq_order.specs.Mirror.{Mirrors}
use Rattle.lq_order.specs.Places.{ArePlaces}
use Rattle.lq_ast.specs.Sorting.{at_most}
use Rattle.lq_order.proofs.Places.{enumerate_apart, enumerate_each, enumerate_items, enumerate_places}

-- ---- parts of a list

all_dropped : {A : Type 0} (P : A → Type 0) (n : ℕ) (xs : List A) → AllByRecursion P xs → AllByRecursion P (drop n xs)
all_dropped P zero xs h = h
all_dropped P (suc n) [] h = h
all_dropped P (suc n) (x ∷ xs) h = all_dropped P n xs h.1

all_taken : {A : Type 0} (P : A → Type 0) (n : ℕ) (xs : List A) → AllByRecursion P xs → AllByRecursion P (take n xs)
all_taken P zero xs h = tt
all_taken P (suc n) [] h = h
all_taken P (suc n) (x ∷ xs) h = (h.0, all_taken P n xs h.1)

all_at_most : {A : Type 0} (P : A → Type 0) (n : Option ℕ) (xs : List A) → AllByRecursion P xs
    → AllByRecursion P (at_most n xs)
all_at_most P None xs h = h
all_at_most P (Some n) xs h = all_taken P n xs h

pairwise_dropped : {A : Type 0} (R : A → A → Type 0) (n : ℕ) (xs : List A) → Pairwise R xs → Pairwise R (drop n xs)
pairwise_dropped R zero xs h = h
pairwise_dropped R (suc n) [] h = h
pairwise_dropped R (suc n) (x ∷ xs) h = pairwise_dropped R n xs h.1

pairwise_taken : {A : Type 0} (R : A → A → Type 0) (n : ℕ) (xs : List A) → Pairwise R xs → Pairwise R (take n xs)
pairwise_taken R zero xs h = tt
pairwise_taken R (suc n) [] h = h
pairwise_taken R (suc n) (x ∷ xs) h = (all_taken (R x) n xs h.0, pairwise_taken R n xs h.1)

pairwise_at_most : {A : Type 0} (R : A → A → Type 0) (n : Option ℕ) (xs : List A) → Pairwise R xs
    → Pairwise R (at_most n xs)
pairwise_at_most R None xs h = h
pairwise_at_most R (Some n) xs h = pairwise_taken R n xs h

map_dropped : {A B : Type 0} (f : A → B) (n : ℕ) (xs : List A) → map f (drop n xs) ≡ drop n (map f xs)
map_dropped f zero xs = refl
map_dropped f (suc n) [] = refl
map_dropped f (suc n) (x ∷ xs) = map_dropped f n xs

map_taken : {A B : Type 0} (f : A → B) (n : ℕ) (xs : List A) → map f (take n xs) ≡ take n (map f xs)
map_taken f zero xs = refl
map_taken f (suc n) [] = refl
map_taken f (suc n) (x ∷ xs) = ap (λ l. f x ∷ l) (map_taken f n xs)

pub map_at_most : {A B : Type 0} (f : A → B) (n : Option ℕ) (xs : List A) → map f (at_most n xs)
    ≡ at_most n (map f xs)
map_at_most f None xs = refl
map_at_most f (Some n) xs = map_taken f n xs

map_alike : {A B C : Type 0} (f : A → B) (g : B → C) (h : A → C) (xs : List A)
    → AllByRecursion (λ x. g (f x) ≡ h x) xs → map g (map f xs) ≡ map h xs
map_alike f g h [] all = refl
map_alike f g h (x ∷ xs) all = ap (λ y. y ∷ map g (map f xs)) all.0 ∙ ap (λ l. h x ∷ l) (map_alike f g h xs all.1)

all_mapped : {A B : Type 0} (f : A → B) (P : B → Type 0) (xs : List A) → AllByRecursion (λ x. P (f x)) xs
    → AllByRecursion P (map f xs)
all_mapped f P [] h = tt
all_mapped f P (x ∷ xs) h = (h.0, all_mapped f P xs h.1)

pairwise_mapped : {A B : Type 0} (f : A → B) (R : B → B → Type 0) (xs : List A) → Pairwise (λ x y. R (f x) (f y)) xs
    → Pairwise R (map f xs)
pairwise_mapped f R [] h = tt
pairwise_mapped f R (x ∷ xs) h = (all_mapped f (R (f x)) xs h.0, pairwise_mapped f R xs h.1)

-- ---- places in the order of items

module _ {A : Type 0} (items : List A) where
  -- a place below the length, with its item
  unfoldable Stands : ℕ × A → Type 0
  Stands p = (p.0 < length items) × ((d : A) → get_or items p.0 d ≡ p.1)

  stand_each : AllByRecursion Stands (enumerate_from 0 items)
  unfolding Stands
  stand_each = all_from_places Stands (enumerate_from 0 items) (enumerate_each items)

  -- places that are in the order of the items are sorted as these
  sorted_as_items : (places : ℕ → ℕ → Ordering) (order : A → A → Ordering) → Mirrors places order items
      → sorted_by (on (λ p. p.0) places) (enumerate_from 0 items)
      ≡ sorted_by (on (λ p. p.1) order) (enumerate_from 0 items)
  unfolding Stands
  sorted_as_items places order m =
      sorted_alike (on (λ p. p.0) places) (on (λ p. p.1) order) Stands
      (λ p q at_p at_q. m.same p.0 q.0 p.1 at_p.0 at_q.0 ∙ ap (λ x. order x (get_or items q.0 p.1)) (at_p.1 p.1)
      ∙ ap (order p.1) (at_q.1 p.1))
      (enumerate_from 0 items) stand_each

  -- the same of the places only
  pub places_as_items : (places : ℕ → ℕ → Ordering) (order : A → A → Ordering) → Mirrors places order items
      → sorted_by places (range_with_len 0 (length items))
      ≡ map (λ p. p.0) (sorted_by (on (λ p. p.1) order) (enumerate_from 0 items))
  places_as_items places order m =
      ap (sorted_by places) (sym (enumerate_places 0 items))
      ∙ sym (map_sorted (λ p. p.0) places (enumerate_from 0 items))
      ∙ ap (map (λ p. p.0)) (sorted_as_items places order m)

  module _ (order : A → A → Ordering) (offset : ℕ) (limit : Option ℕ) where
    chosen : List (ℕ × A)
    chosen = at_most limit (drop offset (sorted_by (on (λ p. p.1) order) (enumerate_from 0 items)))

    stand_chosen : AllByRecursion Stands chosen
    unfolding Stands chosen
    stand_chosen = all_at_most Stands limit _
        (all_dropped Stands offset _ (all_sorted (on (λ p. p.1) order) Stands (enumerate_from 0 items) stand_each))

    pub places_chosen : ArePlaces (length items)
        (map (λ p. p.0) (at_most limit (drop offset (sorted_by (on (λ p. p.1) order) (enumerate_from 0 items)))))
    unfolding Stands chosen
    places_chosen =
        let apart = pairwise_sorted (on (λ p. p.1) order) (λ p q. p.0 ≢ q.0) (λ p q h e. h (sym e))
        (enumerate_from 0 items) (enumerate_apart 0 items) in
        record {
          inside = all_at (λ place. place < length items) (map (λ p. p.0) chosen)
              (all_mapped (λ p. p.0) (λ place. place < length items) chosen
              (all_weaker Stands (λ p. p.0 < length items) (λ p h. h.0) chosen stand_chosen));
          apart = pairs_from_pairwise ◌≢◌ (map (λ p. p.0) chosen)
              (pairwise_mapped (λ p. p.0) ◌≢◌ chosen
              (pairwise_at_most _ limit _ (pairwise_dropped _ offset _ apart)));
        }

    pub items_chosen : (d : A)
        → map (λ place. get_or items place d)
        (map (λ p. p.0) (at_most limit (drop offset (sorted_by (on (λ p. p.1) order) (enumerate_from 0 items)))))
        ≡ at_most limit (drop offset (sorted_by order items))
    unfolding Stands chosen
    items_chosen d =
        map_alike (λ p. p.0) (λ place. get_or items place d) (λ p. p.1) chosen
        (all_weaker Stands (λ p. get_or items p.0 d ≡ p.1) (λ p h. h.1 d) chosen stand_chosen)
        ∙ map_at_most (λ p. p.1) limit _
        ∙ ap (at_most limit) (map_dropped (λ p. p.1) offset _
        ∙ ap (drop offset) (map_sorted (λ p. p.1) order (enumerate_from 0 items)
        ∙ ap (sorted_by order) (enumerate_items 0 items)))

-- the places of what is kept
pub places_kept : {A : Type 0} (kept places : List ℕ) (offset : ℕ) (limit : Option ℕ) (entries : List (ℕ × A))
    → kept ≡ at_most limit (drop offset places) → places ≡ map (λ p. p.0) entries
    → kept ≡ map (λ p. p.0) (at_most limit (drop offset entries))
places_kept kept places offset limit entries is all =
    is ∙ ap (λ ps. at_most limit (drop offset ps)) all
    ∙ sym (map_at_most (λ p. p.0) limit (drop offset entries)
    ∙ ap (at_most limit) (map_dropped (λ p. p.0) offset entries))

-- ---- records that are taken out one after another

-- Those of the first n places are out, and the others still stand.
pub record AreTaken (records now : List Record) (places : List ℕ) (out : List Record) (i : ℕ) : Type 0 where
  pub long : length now ≡ length records
  pub first : out ≡ map (λ place. get_or records place []) (take i places)
  pub left : (k : ℕ) → i ≤ k → k < length places → get_or now (get_or places k 0) []
      ≡ get_or records (get_or places k 0) []
