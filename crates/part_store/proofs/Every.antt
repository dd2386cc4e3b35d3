-- What holds of each element of a list, and of each two.
use Rattle.std.proofs.Common.{◌≡◌, inl, inr, Bool, true, false, List, [], ◌∷◌, ◌++◌, refl, sym, ◌∙◌, ap}
use Rattle.std.proofs.Common.{subst, arith, suc, zero}
use Rattle.std.specs.Prelude.{cond, ◌⊎◌}
use Rattle.std.specs.List.{AllByRecursion, Contains, filter}
use Rattle.std.specs.List.Sorted.{IsPermutation}
use Rattle.std.proofs.lemmas.List.Elements.{All-from_recursion, recursion_from_All, All-contains}
use Rattle.std.proofs.lemmas.List.Sorted.{All-permutation}
use Rattle.part_store.specs.State.{EachPair}

module _ {X : Type 0} where
  pub both : (P Q R : X → Type 0) → ((x : X) → P x → Q x → R x) → (xs : List X) → AllByRecursion P xs
      → AllByRecursion Q xs → AllByRecursion R xs
  both P Q R f [] p q = tt
  both P Q R f (x ∷ xs) p q = (f x p.0 q.0, both P Q R f xs p.1 q.1)

  pub weaker : (P Q : X → Type 0) → ((x : X) → P x → Q x) → (xs : List X) → AllByRecursion P xs → AllByRecursion Q xs
  weaker P Q f [] p = tt
  weaker P Q f (x ∷ xs) p = (f x p.0, weaker P Q f xs p.1)

  pub always : (P : X → Type 0) → ((x : X) → P x) → (xs : List X) → AllByRecursion P xs
  always P f [] = tt
  always P f (x ∷ xs) = (f x, always P f xs)

  pub append : (P : X → Type 0) (xs ys : List X) → AllByRecursion P xs → AllByRecursion P ys
      → AllByRecursion P (xs ++ ys)
  append P [] ys p q = q
  append P (x ∷ xs) ys p q = (p.0, append P xs ys p.1 q)

  -- a filter keeps some
  pub filtered : (P : X → Type 0) (t : X → Bool) (xs : List X) → AllByRecursion P xs → AllByRecursion P (filter t xs)
  filtered P t [] p = tt
  filtered P t (x ∷ xs) p = by (t x) (filtered P t xs p.1)
    where
      by : (b : Bool) → AllByRecursion P (filter t xs) → AllByRecursion P (cond b (x ∷ filter t xs) (filter t xs))
      by true rest = (p.0, rest)
      by false rest = rest

  -- and those pass
  pub passes : (t : X → Bool) (xs : List X) → AllByRecursion (λ x. t x ≡ true) (filter t xs)
  passes t [] = tt
  passes t (x ∷ xs) = by (t x) refl (passes t xs)
    where
      by : (b : Bool) → t x ≡ b → AllByRecursion (λ x. t x ≡ true) (filter t xs)
          → AllByRecursion (λ x. t x ≡ true) (cond b (x ∷ filter t xs) (filter t xs))
      by true is rest = (is, rest)
      by false is rest = rest

  pub reordered : (P : X → Type 0) (xs ys : List X) → IsPermutation xs ys → AllByRecursion P xs → AllByRecursion P ys
  reordered P xs ys same p =
      recursion_from_All P ys (All-permutation P xs ys same (All-from_recursion P xs p))

  pub at_each : (P : X → Type 0) (xs : List X) (x : X) → AllByRecursion P xs → Contains xs x → P x
  at_each P xs x p has = All-contains P xs x (All-from_recursion P xs p) has

  -- an element that passes is kept
  pub contains_filtered : (t : X → Bool) (xs : List X) (x : X) → Contains xs x → t x ≡ true → Contains (filter t xs) x
  contains_filtered t [] x has is = has
  contains_filtered t (y ∷ ys) x (zero, l, e) is = by (t y) (ap t e ∙ is)
    where
      by : (b : Bool) → b ≡ true → Contains (cond b (y ∷ filter t ys) (filter t ys)) x
      by true on = (0, omega arith, e)
      by false on = absurd cc
  contains_filtered t (y ∷ ys) x (suc k, l, e) is = by (t y) (contains_filtered t ys x (k, omega (arith, l), e) is)
    where
      by : (b : Bool) → Contains (filter t ys) x → Contains (cond b (y ∷ filter t ys) (filter t ys)) x
      by true rest = (suc rest.0, omega (arith, rest.1), rest.2)
      by false rest = rest

  -- ---- of each two

  pub pairs_weaker : (R S : X → X → Type 0) → ((x y : X) → R x y → S x y) → (xs : List X) → EachPair R xs
      → EachPair S xs
  pairs_weaker R S f [] p = tt
  pairs_weaker R S f (x ∷ xs) p = (weaker (R x) (S x) (f x) xs p.0, pairs_weaker R S f xs p.1)

  pub pairs_filtered : (R : X → X → Type 0) (t : X → Bool) (xs : List X) → EachPair R xs → EachPair R (filter t xs)
  pairs_filtered R t [] p = tt
  pairs_filtered R t (x ∷ xs) p = by (t x) (filtered (R x) t xs p.0) (pairs_filtered R t xs p.1)
    where
      by : (b : Bool) → AllByRecursion (R x) (filter t xs) → EachPair R (filter t xs)
          → EachPair R (cond b (x ∷ filter t xs) (filter t xs))
      by true here rest = (here, rest)
      by false here rest = rest

  pub pairs_append : (R : X → X → Type 0) (xs ys : List X) → EachPair R xs → EachPair R ys
      → AllByRecursion (λ x. AllByRecursion (R x) ys) xs → EachPair R (xs ++ ys)
  pairs_append R [] ys p q across = q
  pairs_append R (x ∷ xs) ys p q across =
      (append (R x) xs ys p.0 across.0, pairs_append R xs ys p.1 q across.1)

  -- those of P before those of Q
  pub across : (P Q : X → Type 0) (R : X → X → Type 0) → ((x y : X) → P x → Q y → R x y) → (xs ys : List X)
      → AllByRecursion P xs → AllByRecursion Q ys → AllByRecursion (λ x. AllByRecursion (R x) ys) xs
  across P Q R f xs ys p q = weaker P (λ x. AllByRecursion (R x) ys) (λ x here. weaker Q (R x)
      (λ y there. f x y here there) ys q) xs p

  -- between elements of a list
  pub pair_cases : (R : X → X → Type 0) (xs : List X) (x y : X) → EachPair R xs → Contains xs x → Contains xs y
      → (x ≡ y) ⊎ (R x y ⊎ R y x)
  pair_cases R [] x y p has other = absurd (omega (arith, has.1))
  pair_cases R (z ∷ zs) x y p (zero, l, e) (zero, m, f) = inl (sym e ∙ f)
  pair_cases R (z ∷ zs) x y p (zero, l, e) (suc j, m, f) =
      inr (inl (subst (λ w. R w y) e (at_each (R z) zs y p.0 (j, omega (arith, m), f))))
  pair_cases R (z ∷ zs) x y p (suc i, l, e) (zero, m, f) =
      inr (inr (subst (λ w. R w x) f (at_each (R z) zs x p.0 (i, omega (arith, l), e))))
  pair_cases R (z ∷ zs) x y p (suc i, l, e) (suc j, m, f) =
      pair_cases R zs x y p.1 (i, omega (arith, l), e) (j, omega (arith, m), f)
