-- Needs of lists.
use Rattle.std.proofs.Common.{◌≡◌, ℕ, ℤ, zero, suc, ◌<◌, Bool, true, List, [], ◌∷◌, get_or, length, map, set, refl}
use Rattle.std.proofs.Common.{take, ap, ◌∙◌, arith}
use Rattle.std.specs.Prelude.{◌&&◌, ◌||◌, Some, slice_get}
use Rattle.std.proofs.lemmas.Bool.{and_from, and_parts}
use Rattle.std.specs.List.{list_all, list_any}
use Rattle.lq_ast.specs.Condition.{Condition, conditions}
use Rattle.block_body.specs.Outline.{Outline}
use Rattle.lq_prune.specs.Need.{TheNeed, admits, all_needed, need_of, needs_of, one_needed}
use Rattle.lq_prune.specs.Texts.{has_texts, have_texts}

module _ {X : Type 0} (mean : X → Condition) where
  pub needs-list : (now : ℤ) (xs : List X) → map (λ x. need_of now (mean x)) xs ≡ needs_of now (conditions (map mean xs))
  needs-list now [] = refl
  needs-list now (x ∷ xs) = ap (λ needs. need_of now (mean x) ∷ needs) (needs-list now xs)

  pub texts-list : (xs : List X) → list_all (λ x. has_texts (mean x)) xs ≡ have_texts (conditions (map mean xs))
  texts-list [] = refl
  texts-list (x ∷ xs) = ap (λ b. has_texts (mean x) && b) (texts-list xs)

module _ {X : Type 0} (mean : X → TheNeed) (outline : Outline) where
  pub all-list : (xs : List X) → list_all (λ x. admits (mean x) outline) xs ≡ admits (all_needed (map mean xs)) outline
  all-list [] = refl
  all-list (x ∷ xs) = ap (λ b. admits (mean x) outline && b) (all-list xs)

  pub one-list : (xs : List X) → list_any (λ x. admits (mean x) outline) xs ≡ admits (one_needed (map mean xs)) outline
  one-list [] = refl
  one-list (x ∷ xs) = ap (λ b. admits (mean x) outline || b) (one-list xs)

-- Of answers that are all true each one is.
pub all-answers : {X : Type 0} (test : X → Bool) (xs : List X) → list_all test xs ≡ list_all (λ b. b) (map test xs)
all-answers test [] = refl
all-answers test (x ∷ xs) = ap (λ b. test x && b) (all-answers test xs)

-- one more answer that is true, of an item that is written
pub one-more-true : {X : Type 0} (test : X → Bool) (xs : List X) (i : ℕ) (y : X) → i < length xs
    → list_all (λ b. b) (map test (take i xs)) ≡ true → test y ≡ true
    → list_all (λ b. b) (map test (take (suc i) (set xs i y))) ≡ true
one-more-true test [] i y lt before new = absurd (omega (arith, lt))
one-more-true test (x ∷ xs) zero y lt before new = rw new refl
one-more-true test (x ∷ xs) (suc i) y lt before new =
    let parts = and_parts (test x) (list_all (λ b. b) (map test (take i xs))) before in
    and_from (test x) (list_all (λ b. b) (map test (take (suc i) (set xs i y)))) parts.0
    (one-more-true test xs i y (omega arith) parts.1 new)

-- An item that is written in place of one that means the same changes no meaning.
pub meaning-kept : {X Y : Type 0} (mean : X → Y) (xs : List X) (i : ℕ) (x y : X) → i < length xs → x ≡ get_or xs i x
    → mean y ≡ mean x → map mean (set xs i y) ≡ map mean xs
meaning-kept mean [] i x y lt is same = absurd (omega (arith, lt))
meaning-kept mean (z ∷ zs) zero x y lt is same = ap (λ m. m ∷ map mean zs) (same ∙ ap mean is)
meaning-kept mean (z ∷ zs) (suc i) x y lt is same =
    ap (λ ms. mean z ∷ ms) (meaning-kept mean zs i x y (omega arith) is same)

-- what a column has of which a part is known
pub column-at : {X Y : Type 0} (f : X → Y) (xs : List X) (i : ℕ) (y : Y) (d : X) → slice_get (map f xs) i ≡ Some y
    → f (get_or xs i d) ≡ y
column-at f [] i y d e = absurd cc
column-at f (x ∷ xs) zero y d e = cc
column-at f (x ∷ xs) (suc i) y d e = column-at f xs i y d e
