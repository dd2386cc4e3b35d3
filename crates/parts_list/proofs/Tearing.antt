-- What a torn write or a cut leaves of a slot.
use Rattle.std.proofs.Common.{◌≡◌, inl, inr, ℕ, suc, List, [], ◌∷◌, drop, refl, sym, ◌∙◌, ap, subst, arith}
use Rattle.std.proofs.lemmas.List.{ext_get_or}
use Rattle.std.proofs.lemmas.Bool.{cases_eq, ne_eqb}
use Rattle.std.specs.Prelude.{◌↔◌, IsTrue, Bool, true, false}
use Rattle.vl_vault.specs.Disk.{IsTorn, IsCut}
use Rattle.parts_list.specs.Slots.{is_open, IsShut, IsClosedOrOld, IsClosedOrNew}

pub shut-closed : (c : List ℕ) → IsShut c → is_open c ≡ false
shut-closed [] shut = refl
shut-closed (g ∷ []) shut = refl
shut-closed (g ∷ b ∷ body) shut = ne_eqb g 1 shut

-- of a torn gate byte the rest stays
pub torn_gate : (g : ℕ) (rest c : List ℕ) → IsTorn 0 1 (g ∷ rest) c → (x : ℕ) × (c ≡ x ∷ rest)
torn_gate g rest [] torn = absurd (omega (arith, torn.no_shorter))
torn_gate g rest (x ∷ tail) torn = (
  x,
  ap (λ l. x ∷ l) (ext_get_or 0 tail rest (omega (arith, torn.no_shorter, torn.no_longer))
      (λ i below. torn.above (suc i) (omega (arith, torn.no_shorter, torn.no_longer)) (omega arith))),
)

-- after the gate byte anything may be torn
pub torn_behind : (n g : ℕ) (rest c : List ℕ) → IsTorn 1 n (g ∷ rest) c → (tail : List ℕ) × (c ≡ g ∷ tail)
torn_behind n g rest [] torn = absurd (omega (arith, torn.no_shorter))
torn_behind n g rest (x ∷ tail) torn = let same : x ≡ g = torn.below 0 (omega arith) (omega arith) in (
  tail,
  ap (λ y. y ∷ tail) same,
)

-- the first byte of a slot that was durable
pub torn_old : (old c : List ℕ) → IsTorn 0 1 old c → (IsShut old → ⊥) → IsClosedOrOld old c
torn_old [] [] torn unshut = inl refl
torn_old [] (x ∷ []) torn unshut = inl refl
torn_old [] (x ∷ y ∷ tail) torn unshut = absurd (omega (arith, torn.no_longer))
torn_old (g ∷ rest) c torn unshut =
    let whole = torn_gate g rest c torn in
    elim (cases_eq g 1) [
      | inl one ↦ elim (cases_eq whole.0 1) [
        | inl is ↦ inr (whole.1 ∙ ap (λ y. y ∷ rest) (is ∙ sym one))
        | inr shut ↦ inl (shut-closed c (subst IsShut (sym whole.1) shut))
      ]
      | inr shut ↦ absurd (unshut shut)
    ]

pub shut_behind : (n : ℕ) (old c : List ℕ) → IsShut old → IsTorn 1 n old c → IsShut c
shut_behind n [] c shut torn = absurd shut
shut_behind n (g ∷ rest) c shut torn = subst IsShut (sym (torn_behind n g rest c torn).1) shut

pub shut_cut : (old c : List ℕ) → IsShut old → IsCut 1 old c → IsShut c
shut_cut old c shut (inl is) = subst IsShut (sym is) shut
shut_cut [] c shut (inr is) = absurd shut
shut_cut (g ∷ rest) c shut (inr is) = subst IsShut (sym is) shut

pub torn_open : (old c : List ℕ) → IsShut old → IsTorn 0 1 old c → IsClosedOrNew (drop 1 old) c
torn_open [] c shut torn = absurd shut
torn_open (g ∷ rest) c shut torn =
    let whole = torn_gate g rest c torn in
    elim (cases_eq whole.0 1) [
      | inl is ↦ inr (whole.1 ∙ ap (λ y. y ∷ rest) is)
      | inr open_not ↦ inl (shut-closed c (subst IsShut (sym whole.1) open_not))
    ]

-- a test that says no
pub unshut : (is : Bool) (old : List ℕ) → IsTrue is ↔ IsShut old → is ≡ false → IsShut old → ⊥
unshut is old tells off shut = let yes : is ≡ true = tells.1 shut in absurd (cc)
