-- The kinds of the tokens of some roles.
use Rattle.std.proofs.Common.{◌≡◌, ℕ, ◌+◌, ◌<◌, Bool, true, false, cond, eqb, ◌==◌, ◌||◌, List, [], ◌∷◌, ◌++◌, refl}
use Rattle.std.proofs.Common.{sym, ap, ◌∙◌, arith}
use Rattle.std.proofs.lemmas.Bool.{eqb-true}
use Rattle.std.proofs.Common.{eq-eqb}
use Rattle.std.specs.List.{list_any}
use Rattle.grammar.specs.Rule.{Class, member}
use Rattle.lq_grammar.specs.declared.role.Role.{Role}
use Rattle.lq_grammar.specs.Roles.{number, apart_by, loose, glued, any}
use Rattle.lq_grammar.proofs.Numbers.{number_bound}

or_none : (b : Bool) → (b || false) ≡ b
or_none true = refl
or_none false = refl

same_test : (a b c d : ℕ) → (a ≡ b → c ≡ d) → (c ≡ d → a ≡ b) → eqb a b ≡ eqb c d
same_test a b c d there back = by_test (eqb a b) refl (eqb c d) refl
  where
    by_test : (x : Bool) → eqb a b ≡ x → (y : Bool) → eqb c d ≡ y → x ≡ y
    by_test true e true f = refl
    by_test false e false f = refl
    by_test true e false f = absurd (clash (eq-eqb c d (there (eqb-true a b e))) f)
      where
        clash : eqb c d ≡ true → eqb c d ≡ false → ⊥
        clash g h = absurd cc
    by_test false e true f = absurd (clash (eq-eqb a b (back (eqb-true c d f))) e)
      where
        clash : eqb a b ≡ true → eqb a b ≡ false → ⊥
        clash g h = absurd cc

differ : (a b : ℕ) → (a ≡ b → ⊥) → eqb a b ≡ false
differ a b never = by_test (eqb a b) refl
  where
    by_test : (x : Bool) → eqb a b ≡ x → x ≡ false
    by_test true e = absurd (never (eqb-true a b e))
    by_test false e = refl

pub member-append : (c : ℕ) (a b : Class) → member c (a ++ b) ≡ (member c a || member c b)
member-append c [] b = refl
member-append c (k ∷ a) b = by_test (eqb k c) (member-append c a b)
  where
    by_test : (x : Bool) → member c (a ++ b) ≡ (member c a || member c b)
        → (x || member c (a ++ b)) ≡ ((x || member c a) || member c b)
    by_test true e = refl
    by_test false e = e

-- a kind that is not glued is among those that are not, and a glued one among the glued
loose_in : (n : ℕ) (roles : List Role) → n < apart_by → member n (glued roles) ≡ false
loose_in n [] h = refl
loose_in n (r ∷ roles) h =
    ap (λ (b : Bool). b || member n (glued roles)) (differ (number r + apart_by) n (λ e. omega (arith, e)))
    ∙ loose_in n roles h

glued_out : (n : ℕ) (roles : List Role) → member (n + apart_by) (loose roles) ≡ false
glued_out n [] = refl
glued_out n (r ∷ roles) =
    ap (λ (b : Bool). b || member (n + apart_by) (loose roles))
    (differ (number r) (n + apart_by) (λ e. omega (arith, e, number_bound r))) ∙ glued_out n roles

glued_same : (n : ℕ) (roles : List Role) → member (n + apart_by) (glued roles) ≡ member n (loose roles)
glued_same n [] = refl
glued_same n (r ∷ roles) =
    ap (λ (b : Bool). b || member (n + apart_by) (glued roles))
    (same_test (number r + apart_by) (n + apart_by) (number r) n (λ e. omega (arith, e)) (λ e. omega (arith, e)))
    ∙ ap (λ (b : Bool). eqb (number r) n || b) (glued_same n roles)

among : (n : ℕ) (roles : List Role) → list_any (λ other. number other == n) roles ≡ member n (loose roles)
among n [] = refl
among n (r ∷ roles) = ap (λ (b : Bool). eqb (number r) n || b) (among n roles)

any_of_role : (role : Role) (roles : List Role) (g : Bool)
    → member (number role) (loose roles) ≡ member (number role + cond g apart_by 0) (any roles)
any_of_role role roles true =
    sym (glued_same (number role) roles) ∙ ap (λ (b : Bool). b || member (number role + apart_by) (glued roles))
    (sym (glued_out (number role) roles)) ∙ sym (member-append (number role + apart_by) (loose roles) (glued roles))
any_of_role role roles false =
    let zero : number role + 0 ≡ number role = omega arith in
    sym (ap (λ (n : ℕ). member n (any roles)) zero ∙ member-append (number role) (loose roles) (glued roles)
    ∙ ap (λ (b : Bool). member (number role) (loose roles) || b) (loose_in (number role) roles (number_bound role))
    ∙ or_none (member (number role) (loose roles)))

glued_of_role : (role : Role) (roles : List Role) (g : Bool)
    → cond g (member (number role) (loose roles)) false ≡ member (number role + cond g apart_by 0) (glued roles)
glued_of_role role roles true = sym (glued_same (number role) roles)
glued_of_role role roles false =
    let zero : number role + 0 ≡ number role = omega arith in
    sym (ap (λ (n : ℕ). member n (glued roles)) zero ∙ loose_in (number role) roles (number_bound role))

pub any_role : (role : Role) (roles : List Role) (g : Bool)
    → list_any (λ other. number other == number role) roles ≡ member (number role + cond g apart_by 0) (any roles)
any_role role roles g = among (number role) roles ∙ any_of_role role roles g

pub glued_role : (role : Role) (roles : List Role) (g : Bool) → g ≡ true
    → list_any (λ other. number other == number role) roles ≡ member (number role + cond g apart_by 0) (glued roles)
glued_role role roles true e = among (number role) roles ∙ glued_of_role role roles true
glued_role role roles false e = absurd cc

pub loose_role : (role : Role) (roles : List Role) (g : Bool) → g ≡ false
    → g ≡ member (number role + cond g apart_by 0) (glued roles)
loose_role role roles true e = absurd cc
loose_role role roles false e = glued_of_role role roles false

pub ruleset glued_steps = (glued_role, loose_role)
