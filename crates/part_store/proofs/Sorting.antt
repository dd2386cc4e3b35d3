-- A stable sort by a number.
use Rattle.std.proofs.Common.{◌≡◌, inl, inr, ℕ, ◌<◌, Bool, true, false, List, [], ◌∷◌, length, map}
use Rattle.std.proofs.Common.{refl, sym, ◌∙◌, ap, subst, arith}
use Rattle.std.specs.Prelude.{◌⊎◌, ◌==◌, ◌&&◌, cond, nat_lt, not}
use Rattle.std.specs.List.{AllByRecursion, filter}
use Rattle.std.specs.List.Sorted.{IsNonDecreasingBy, IsStableByKey, ties}
use Rattle.std.specs.Ordering.{is_lt, nat_cmp}
use Rattle.std.proofs.lemmas.Bool.{cases_order, eq-eqb, eqb-true, le-ltb, lt-ltb, ne_eqb}
use Rattle.std.specs.declared.cmp.Ordering.TheVariants.{Less, Equal, Greater}
use Rattle.std.proofs.lemmas.List.{get_or-map, length-map}
use Rattle.part_store.proofs.Every.{passes}

pub filter_mapped : {X Y : Type 0} (f : X → Y) (t : Y → Bool) (xs : List X)
    → filter t (map f xs) ≡ map f (filter (λ x. t (f x)) xs)
filter_mapped f t [] = refl
filter_mapped f t (x ∷ xs) = by (t (f x)) (filter_mapped f t xs)
  where
    by : (b : Bool) → filter t (map f xs) ≡ map f (filter (λ x. t (f x)) xs)
        → cond b (f x ∷ filter t (map f xs)) (filter t (map f xs))
        ≡ map f (cond b (x ∷ filter (λ x. t (f x)) xs) (filter (λ x. t (f x)) xs))
    by true rest = ap (λ ys. f x ∷ ys) rest
    by false rest = rest

pub filter_alike : {X : Type 0} (s t : X → Bool) → ((x : X) → s x ≡ t x) → (xs : List X) → filter s xs ≡ filter t xs
filter_alike s t same xs = λ i. filter (λ x. same x i) xs

lt_is : (a b : ℕ) → is_lt (nat_cmp a b) ≡ nat_lt a b
lt_is a b = by (nat_lt a b) (a == b)
  where
    by : (less same : Bool) → is_lt (cond less Less (cond same Equal Greater)) ≡ less
    by true same = refl
    by false true = refl
    by false false = refl

-- neither number is less just where they are the same
alike : (a b d : ℕ) → a ≡ d → (not (is_lt (nat_cmp a b)) && not (is_lt (nat_cmp b a))) ≡ (b == d)
alike a b d is = rw (lt_is a b, lt_is b a) (pick (cases_order b d))
  where
    pick : (b ≡ d) ⊎ ((b < d) ⊎ (d < b)) → (not (nat_lt a b) && not (nat_lt b a)) ≡ (b == d)
    pick (inl same) = rw (
      le-ltb a b (omega (arith, is, same)),
      le-ltb b a (omega
          (arith, is, same)),
      eq-eqb b d same,
    ) refl
    pick (inr (inl less)) = rw (
      le-ltb a b (omega (arith, is, less)),
      lt-ltb b a (omega
          (arith, is, less)),
      ne_eqb b d (λ same. omega (arith, same, less)),
    ) refl
    pick (inr (inr more)) = rw (
      lt-ltb a b (omega (arith, is, more)),
      ne_eqb b d (λ same. omega
          (arith, same, more)),
    ) refl

module _ {X : Type 0} (n : X → ℕ) (xs ys : List X) (stable : IsStableByKey n nat_cmp xs ys) (d : ℕ) where
  abbrev t : X → Bool
  t x = n x == d

  of_one : (x : X) → n x ≡ d → filter t ys ≡ filter t xs
  of_one x is =
      let same = λ (y : X). alike (n x) (n y) d is in
      sym (filter_alike (ties (λ x y. is_lt (nat_cmp (n x) (n y))) x) t same ys) ∙ stable x
      ∙ filter_alike (ties (λ x y. is_lt (nat_cmp (n x) (n y))) x) t same xs

  -- the elements of one number keep their order
  pub same_of_each : filter t ys ≡ filter t xs
  same_of_each = pick (filter t ys) (filter t xs) refl refl
    where
      pick : (fy fx : List X) → filter t ys ≡ fy → filter t xs ≡ fx → filter t ys ≡ filter t xs
      pick [] [] none nothing = none ∙ sym nothing
      pick (y ∷ rest) fx is other =
          of_one y (eqb-true (n y) d (subst (AllByRecursion (λ x. t x ≡ true)) is (passes t ys)).0)
      pick [] (x ∷ rest) none is =
          of_one x (eqb-true (n x) d (subst (AllByRecursion (λ x. t x ≡ true)) is (passes t xs)).0)

pub rising_mapped : {X Y : Type 0} (f : X → Y) (n : Y → ℕ) (xs : List X) → IsNonDecreasingBy (λ x. n (f x)) xs
    → IsNonDecreasingBy n (map f xs)
rising_mapped f n [] up i j e le below = absurd (omega (arith, below))
rising_mapped f n (x ∷ xs) up i j e le below =
    let under : j < length (x ∷ xs) = omega (arith, below, length-map (x ∷ xs) f) in
    rw (get_or-map f (x ∷ xs) i x e (omega (arith, le, under)), get_or-map f (x ∷ xs) j x e under) (up i j x le under)
