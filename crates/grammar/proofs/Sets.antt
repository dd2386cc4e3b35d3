-- Token classes, as lists of codes.
use Rattle.std.proofs.Common.{◌≡◌, ℕ, Bool, true, false, not, cond, eqb, ◌||◌, ◌&&◌, List, [], ◌∷◌, ◌++◌, refl, subst}
use Rattle.std.proofs.Common.{◌⊎◌, inl, inr}
use Rattle.std.proofs.lemmas.Bool.{and_parts, or_cases, eqb-true, false_from_ne_true}
use Rattle.grammar.specs.Rule.{Token}
use Rattle.grammar.specs.Rule.{Class, member, next}

pub or_left : (x y : Bool) → x ≡ true → (x || y) ≡ true
or_left true y e = refl
or_left false y e = absurd cc

pub or_right : (x y : Bool) → y ≡ true → (x || y) ≡ true
or_right true y e = refl
or_right false y e = e

pub member_left : (c : ℕ) (a b : Class) → member c a ≡ true → member c (a ++ b) ≡ true
member_left c [] b e = absurd cc
member_left c (k ∷ a) b e = by_case (or_cases (eqb k c) (member c a) e) (member_left c a b)
  where
    by_case : (eqb k c ≡ true) ⊎ (member c a ≡ true) → (member c a ≡ true → member c (a ++ b) ≡ true)
        → member c (k ∷ (a ++ b)) ≡ true
    by_case (inl h) ih = or_left (eqb k c) (member c (a ++ b)) h
    by_case (inr h) ih = or_right (eqb k c) (member c (a ++ b)) (ih h)

pub member_right : (c : ℕ) (a b : Class) → member c b ≡ true → member c (a ++ b) ≡ true
member_right c [] b e = e
member_right c (k ∷ a) b e = or_right (eqb k c) (member c (a ++ b)) (member_right c a b e)

pub in_left : {X : Type 0} → (a b : Class) (u : List (Token X)) → next a u ≡ true → next (a ++ b) u ≡ true
in_left a b [] e = absurd cc
in_left a b (t ∷ ts) e = member_left t.kind a b e

pub in_right : {X : Type 0} → (a b : Class) (u : List (Token X)) → next b u ≡ true → next (a ++ b) u ≡ true
in_right a b [] e = absurd cc
in_right a b (t ∷ ts) e = member_right t.kind a b e

pub not_both : (b : Bool) → b ≡ true → b ≡ false → ⊥
not_both b e f = absurd cc

pub out_left : {X : Type 0} → (a b : Class) (u : List (Token X)) → next (a ++ b) u ≡ false → next a u ≡ false
out_left a b u e = false_from_ne_true (next a u)
    (λ (h : next a u ≡ true). not_both (next (a ++ b) u) (in_left a b u h) e)

pub out_right : {X : Type 0} → (a b : Class) (u : List (Token X)) → next (a ++ b) u ≡ false → next b u ≡ false
out_right a b u e = false_from_ne_true (next b u)
    (λ (h : next b u ≡ true). not_both (next (a ++ b) u) (in_right a b u h) e)

-- no code is in both classes
abbrev pub apart : Class → Class → Bool
apart [] b = true
apart (k ∷ a) b = not (member k b) && apart a b

-- every code of the first class is in the second
abbrev pub inside : Class → Class → Bool
inside [] b = true
inside (k ∷ a) b = member k b && inside a b

pub not_true : (b : Bool) → not b ≡ true → b ≡ false
not_true true e = absurd cc
not_true false e = refl

member_apart : (c : ℕ) (a b : Class) → apart a b ≡ true → member c a ≡ true → member c b ≡ false
member_apart c [] b e h = absurd cc
member_apart c (k ∷ a) b e h = by_case (or_cases (eqb k c) (member c a) h)
    (member_apart c a b (and_parts (not (member k b)) (apart a b) e).1)
  where
    p : (not (member k b) ≡ true) × (apart a b ≡ true)
    p = and_parts (not (member k b)) (apart a b) e

    by_case : (eqb k c ≡ true) ⊎ (member c a ≡ true) → (member c a ≡ true → member c b ≡ false) → member c b ≡ false
    by_case (inl i) ih = subst (λ (x : ℕ). member x b ≡ false) (eqb-true k c i) (not_true (member k b) p.0)
    by_case (inr i) ih = ih i

pub apart_next : {X : Type 0} → (a b : Class) (u : List (Token X)) → apart a b ≡ true → next a u ≡ true
    → next b u ≡ false
apart_next a b [] e h = absurd cc
apart_next a b (t ∷ ts) e h = member_apart t.kind a b e h

pub apart_back : {X : Type 0} → (a b : Class) (u : List (Token X)) → apart a b ≡ true → next b u ≡ true
    → next a u ≡ false
apart_back a b u e h = false_from_ne_true (next a u)
    (λ (i : next a u ≡ true). not_both (next b u) h (apart_next a b u e i))

member_inside : (c : ℕ) (a b : Class) → inside a b ≡ true → member c a ≡ true → member c b ≡ true
member_inside c [] b e h = absurd cc
member_inside c (k ∷ a) b e h = by_case (or_cases (eqb k c) (member c a) h)
    (member_inside c a b (and_parts (member k b) (inside a b) e).1)
  where
    p : (member k b ≡ true) × (inside a b ≡ true)
    p = and_parts (member k b) (inside a b) e

    by_case : (eqb k c ≡ true) ⊎ (member c a ≡ true) → (member c a ≡ true → member c b ≡ true) → member c b ≡ true
    by_case (inl i) ih = subst (λ (x : ℕ). member x b ≡ true) (eqb-true k c i) p.0
    by_case (inr i) ih = ih i

pub inside_next : {X : Type 0} → (a b : Class) (u : List (Token X)) → inside a b ≡ true → next a u ≡ true
    → next b u ≡ true
inside_next a b [] e h = absurd cc
inside_next a b (t ∷ ts) e h = member_inside t.kind a b e h

pub outside_next : {X : Type 0} → (a b : Class) (u : List (Token X)) → inside a b ≡ true → next b u ≡ false
    → next a u ≡ false
outside_next a b u e h = false_from_ne_true (next a u)
    (λ (i : next a u ≡ true). not_both (next b u) (inside_next a b u e i) h)

pub member_cases : (c : ℕ) (a b : Class) → member c (a ++ b) ≡ true → (member c a ≡ true) ⊎ (member c b ≡ true)
member_cases c [] b e = inr e
member_cases c (k ∷ a) b e = by_case (or_cases (eqb k c) (member c (a ++ b)) e) (member_cases c a b)
  where
    by_case : (eqb k c ≡ true) ⊎ (member c (a ++ b) ≡ true)
        → (member c (a ++ b) ≡ true → (member c a ≡ true) ⊎ (member c b ≡ true)) → (member c (k ∷ a) ≡ true)
        ⊎ (member c b ≡ true)
    by_case (inl h) ih = inl (or_left (eqb k c) (member c a) h)
    by_case (inr h) ih = behind (ih h)
      where
        behind : (member c a ≡ true) ⊎ (member c b ≡ true) → (member c (k ∷ a) ≡ true) ⊎ (member c b ≡ true)
        behind (inl i) = inl (or_right (eqb k c) (member c a) i)
        behind (inr i) = inr i

pub out_of_both : {X : Type 0} → (a b : Class) (u : List (Token X)) → next a u ≡ false → next b u ≡ false
    → next (a ++ b) u ≡ false
out_of_both a b [] e f = refl
out_of_both a b (t ∷ ts) e f = false_from_ne_true (member t.kind (a ++ b))
    (λ (h : member t.kind (a ++ b) ≡ true). by_case (member_cases t.kind a b h))
  where
    by_case : (member t.kind a ≡ true) ⊎ (member t.kind b ≡ true) → ⊥
    by_case (inl i) = not_both (member t.kind a) i e
    by_case (inr i) = not_both (member t.kind b) i f

-- the codes of the first class that are not in the second
abbrev pub without : Class → Class → Class
without b [] = []
without b (k ∷ a) = cond (member k b) (without b a) (k ∷ without b a)

member_without : (c : ℕ) (b a : Class) → member c a ≡ true → member c b ≡ false → member c (without b a) ≡ true
member_without c b [] e f = absurd cc
member_without c b (k ∷ a) e f = by_case (or_cases (eqb k c) (member c a) e) (member k b) refl
    (λ (h : member c a ≡ true). member_without c b a h f)
  where
    by_case : (eqb k c ≡ true) ⊎ (member c a ≡ true) → (x : Bool) → member k b ≡ x
        → (member c a ≡ true → member c (without b a) ≡ true) → member c (cond x (without b a) (k ∷ without b a)) ≡ true
    by_case (inl h) true is ih =
        absurd (not_both (member c b) (subst (λ (x : ℕ). member x b ≡ true) (eqb-true k c h) is) f)
    by_case (inl h) false is ih = or_left (eqb k c) (member c (without b a)) h
    by_case (inr h) true is ih = ih h
    by_case (inr h) false is ih = or_right (eqb k c) (member c (without b a)) (ih h)

pub out_without : {X : Type 0} → (b a : Class) (u : List (Token X)) → next (without b a) u ≡ false → next b u ≡ false
    → next a u ≡ false
out_without b a [] e f = refl
out_without b a (t ∷ ts) e f = false_from_ne_true (member t.kind a)
    (λ (h : member t.kind a ≡ true). not_both (member t.kind (without b a)) (member_without t.kind b a h f) e)
