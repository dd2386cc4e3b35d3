-- Walks over a list, by what its rest says once the first elements are passed.
use Rattle.std.proofs.Common.{◌≡◌, ◌<◌, ◌≤◌, ℕ, suc, ◌+◌, Bool, true, false, ◌&&◌, ◌||◌, List, [], ◌∷◌, length}
use Rattle.std.proofs.Common.{drop, map}
use Rattle.std.proofs.Common.{get_or, refl, sym, ap, ◌∙◌, drop-cons, add-one}
use Rattle.std.proofs.lemmas.List.{drop_all}
use Rattle.std.specs.List.{list_all, list_any}

pub rest_is : {X : Type 0} (xs : List X) (i : ℕ) (x : X) → i < length xs → x ≡ get_or xs i x
    → drop i xs ≡ x ∷ drop (i + 1) xs
rest_is xs i x below is = drop-cons xs i x below ∙ ap (λ y. y ∷ drop (suc i) xs) (sym is) ∙ rw add-one refl

pub all_mapped : {X Y : Type 0} (test : Y → Bool) (f : X → Y) (xs : List X)
    → list_all (λ x. test (f x)) xs ≡ list_all test (map f xs)
all_mapped test f [] = refl
all_mapped test f (x ∷ xs) = ap (λ b. test (f x) && b) (all_mapped test f xs)

pub any_mapped : {X Y : Type 0} (test : Y → Bool) (f : X → Y) (xs : List X)
    → list_any (λ x. test (f x)) xs ≡ list_any test (map f xs)
any_mapped test f [] = refl
any_mapped test f (x ∷ xs) = ap (λ b. test (f x) || b) (any_mapped test f xs)

module _ {X : Type 0} (test : X → Bool) (xs : List X) (i : ℕ) (answer : Bool) where
  pub all_ends : length xs ≤ i → list_all test (drop i xs) ≡ answer → true ≡ answer
  all_ends ends before = sym (ap (list_all test) (drop_all i xs ends)) ∙ before

  pub any_ends : length xs ≤ i → list_any test (drop i xs) ≡ answer → false ≡ answer
  any_ends ends before = sym (ap (list_any test) (drop_all i xs ends)) ∙ before

  module _ (x : X) (below : i < length xs) (is : x ≡ get_or xs i x) where
    all_step : (b : Bool) → test x ≡ b → list_all test (drop i xs) ≡ (b && list_all test (drop (i + 1) xs))
    all_step b e = ap (list_all test) (rest_is xs i x below is) ∙ ap (λ c. c && list_all test (drop (i + 1) xs)) e

    any_step : (b : Bool) → test x ≡ b → list_any test (drop i xs) ≡ (b || list_any test (drop (i + 1) xs))
    any_step b e = ap (list_any test) (rest_is xs i x below is) ∙ ap (λ c. c || list_any test (drop (i + 1) xs)) e

    pub all_fails : test x ≡ false → list_all test (drop i xs) ≡ answer → false ≡ answer
    all_fails e before = sym (all_step false e) ∙ before

    pub all_goes_on : test x ≡ true → list_all test (drop i xs) ≡ answer → list_all test (drop (i + 1) xs) ≡ answer
    all_goes_on e before = sym (all_step true e) ∙ before

    pub any_passes : test x ≡ true → list_any test (drop i xs) ≡ answer → true ≡ answer
    any_passes e before = sym (any_step true e) ∙ before

    pub any_goes_on : test x ≡ false → list_any test (drop i xs) ≡ answer → list_any test (drop (i + 1) xs) ≡ answer
    any_goes_on e before = sym (any_step false e) ∙ before
