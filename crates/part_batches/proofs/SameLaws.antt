-- Lists that have the same numbers.
use Rattle.std.proofs.Common.{◌≡◌, ◌∙◌, ℕ, true, List, [], ◌∷◌, map}
use Rattle.std.proofs.Common.{ap, refl, set, subst, sym, get_or}
use Rattle.std.specs.List.{AllByRecursion, list_all, swap}
use Rattle.std.specs.List.Sorted.{IsPermutation, IsStrictlySortedBy, SwapsInRange, apply_swaps}
use Rattle.std.specs.Ordering.{is_lt}
use Rattle.std.specs.declared.cmp.Ordering.TheVariants.{Less}
use Rattle.std.proofs.lemmas.Bool.{and_from}
use Rattle.std.proofs.Math.ListN.{get_or-map}
use Rattle.std.proofs.lemmas.List.{length-map, map-set}
use Rattle.std.proofs.lemmas.List.Sorted.{IsPermutation-map}
use Rattle.log_model.specs.History.{Numbered}
use Rattle.block_format.specs.Rows.{number_cmp, number_of}
use Rattle.part_model.specs.Order.{are_in_order, is_earlier}
use Rattle.part_model.proofs.OrderLaws.{one-order}

-- ---- a list whose images were put in another order

module _ {X Y : Type 0} (f : X → Y) where
  map-swap : (xs : List X) (i j : ℕ) → map f (swap xs i j) ≡ swap (map f xs) i j
  map-swap [] i j = refl
  map-swap (d ∷ ys) i j =
      map-set f (set (d ∷ ys) i (get_or (d ∷ ys) j d)) j (get_or (d ∷ ys) i d)
      ∙ (λ k. set ((map-set f (d ∷ ys) i (get_or (d ∷ ys) j d) ∙ ap (set (map f (d ∷ ys)) i) (sym (get_or-map f (d ∷ ys) j
      d))) k) j (sym (get_or-map f (d ∷ ys) i d) k))

  map-swaps : (xs : List X) (ps : List (ℕ × ℕ)) → map f (apply_swaps xs ps) ≡ apply_swaps (map f xs) ps
  map-swaps xs [] = refl
  map-swaps xs (p ∷ ps) = map-swap (apply_swaps xs ps) p.0 p.1 ∙ ap (λ l. swap l p.0 p.1) (map-swaps xs ps)

  -- the list itself, in that order
  pub record IsOrdered (xs : List X) (ys : List Y) : Type 0 where
    pub ordered : List X
    pub same : IsPermutation xs ordered
    pub images : map f ordered ≡ ys

  pub ordered-by : (xs : List X) (ys : List Y) → IsPermutation (map f xs) ys → IsOrdered xs ys
  ordered-by xs ys p = record {
    ordered = apply_swaps xs p.moves;
    same = record {
      moves = p.moves;
      below = subst (λ n. SwapsInRange n p.moves) (length-map xs f) p.below;
      is = refl;
    };
    images = map-swaps xs p.moves ∙ sym p.is;
  }

-- ---- numbers have one order

-- a row of this number, of which nothing else matters
abbrev row_of : ℕ × ℕ → Numbered
row_of number = record {
  batch = number.0;
  place = number.1;
  row = record { moment = 0; labels = []; fields = [] };
}

rows-back : (numbers : List (ℕ × ℕ)) → map number_of (map row_of numbers) ≡ numbers
rows-back [] = refl
rows-back (x ∷ numbers) = ap (λ (l : List (ℕ × ℕ)). x ∷ l) (rows-back numbers)

all-earlier : (x : ℕ × ℕ) (numbers : List (ℕ × ℕ)) → AllByRecursion (λ y. number_cmp x y ≡ Less) numbers
    → list_all (is_earlier (row_of x)) (map row_of numbers) ≡ true
all-earlier x [] h = refl
all-earlier x (y ∷ numbers) h =
    and_from (is_earlier (row_of x) (row_of y)) (list_all (is_earlier (row_of x)) (map row_of numbers)) (ap is_lt h.0)
    (all-earlier x numbers h.1)

rows-ordered : (numbers : List (ℕ × ℕ)) → IsStrictlySortedBy number_cmp numbers → are_in_order (map row_of numbers) ≡ true
unfolding IsStrictlySortedBy
rows-ordered [] h = refl
rows-ordered (x ∷ numbers) h =
    and_from (list_all (is_earlier (row_of x)) (map row_of numbers)) (are_in_order (map row_of numbers))
    (all-earlier x numbers h.0) (rows-ordered numbers h.1)

pub one-order-of : (xs ys : List (ℕ × ℕ)) → IsPermutation xs ys → IsStrictlySortedBy number_cmp xs
    → IsStrictlySortedBy number_cmp ys → xs ≡ ys
one-order-of xs ys same p q =
    sym (rows-back xs)
    ∙ ap (map number_of) (one-order (map row_of xs) (map row_of ys) (IsPermutation-map row_of xs ys same)
    (rows-ordered xs p) (rows-ordered ys q))
    ∙ rows-back ys
