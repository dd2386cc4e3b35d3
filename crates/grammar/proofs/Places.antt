-- Where the parser is stuck in a text, and where the text's flaws are.
use Rattle.std.proofs.Common.{◌≡◌, ℕ, List, [], ◌∷◌, ◌++◌, refl, sym, ap, ◌∙◌, subst, append_assoc}
use Rattle.grammar.specs.Rule.{Token}
use Rattle.grammar.specs.Spelling.{Outcome, SameHead, IsStuck}
use Rattle.grammar.proofs.Good.{PlaceIn, place_ahead}
use Rattle.grammar.proofs.Names.{IsReached}

-- two splits of a text: at the same place, or one before the other
data Cuts {X : Type 0} (one one_rest other other_rest : List (Token X)) : Type 0 where
  same : one ≡ other → one_rest ≡ other_rest → Cuts one one_rest other other_rest
  earlier : (x : Token X) (between : List (Token X)) → other ≡ one ++ x ∷ between
      → one_rest ≡ x ∷ (between ++ other_rest) → Cuts one one_rest other other_rest
  later : (x : Token X) (between : List (Token X)) → one ≡ other ++ x ∷ between
      → other_rest ≡ x ∷ (between ++ one_rest) → Cuts one one_rest other other_rest

tails : {X : Type 0} (x y : Token X) (u w : List (Token X)) → x ∷ u ≡ y ∷ w → (x ≡ y) × (u ≡ w)
tails x y u w e = (cc, cc)

cuts : {X : Type 0} (a u b w : List (Token X)) → a ++ u ≡ b ++ w → Cuts a u b w
cuts [] u [] w e = same refl e
cuts [] u (y ∷ b) w e = earlier y b refl e
cuts (x ∷ a) u [] w e = later x a refl (sym e)
cuts {X} (x ∷ a) u (y ∷ b) w e = by_tail (cuts a u b w (tails x y (a ++ u) (b ++ w) e).1)
  where
    heads : x ≡ y
    heads = (tails x y (a ++ u) (b ++ w) e).0

    by_tail : Cuts a u b w → Cuts (x ∷ a) u (y ∷ b) w
    by_tail (same h k) = same (ap (λ (t : Token X). t ∷ a) heads ∙ ap (λ (v : List (Token X)). y ∷ v) h) k
    by_tail (earlier z l h k) =
        earlier z l (ap (λ (t : Token X). t ∷ b) (sym heads) ∙ ap (λ (v : List (Token X)). x ∷ v) h) k
    by_tail (later z l h k) =
        later z l (ap (λ (t : Token X). t ∷ a) heads ∙ ap (λ (v : List (Token X)). y ∷ v) h) k

module _ {X F A : Type 0} (S : Outcome F A → List (Token X) → Type 0) (u : List (Token X)) where
  -- no text continues past a place where none continues
  none_longer : (rest : List (Token X)) (s : IsStuck S u rest) (x : Token X) (between text behind : List (Token X))
      → rest ≡ x ∷ behind → text ≡ s.before ++ x ∷ between
      → ((more : List (Token X)) × (r : Outcome F A) × S r (text ++ more)) → ⊥
  none_longer rest s x between text behind is parts (more, r, spelled) =
      s.longest (x ∷ (between ++ more)) r
      (subst (λ (l : List (Token X)). SameHead l (x ∷ (between ++ more))) (sym is) refl)
      (subst (λ (l : List (Token X)). S r l)
      (ap (λ (l : List (Token X)). l ++ more) parts ∙ append_assoc s.before (x ∷ between) more) spelled)

  -- the parser is stuck at one place only
  pub stuck_once : (one other : List (Token X)) → IsStuck S u one → IsStuck S u other → one ≡ other
  stuck_once one other s t = by_cuts (cuts s.before one t.before other (sym s.parts ∙ t.parts))
    where
      by_cuts : Cuts s.before one t.before other → one ≡ other
      by_cuts (same h k) = k
      by_cuts (earlier x between h k) = absurd (none_longer one s x between t.before (between ++ other) k h t.begins)
      by_cuts (later x between h k) = absurd (none_longer other t x between s.before (between ++ one) k h s.begins)

  -- the text's flaw is before that place
  pub flaw_before : (rest : List (Token X)) (at : ℕ) → (s : IsStuck S u rest) → IsReached S u at → PlaceIn at s.before
  flaw_before rest at s t = by_cuts (cuts s.before rest t.before t.rest (sym s.parts ∙ t.parts))
    where
      by_cuts : Cuts s.before rest t.before t.rest → PlaceIn at s.before
      by_cuts (same h k) = subst (PlaceIn at) (sym h) t.inside
      by_cuts (earlier x between h k) = absurd (none_longer rest s x between t.before (between ++ t.rest) k h t.begins)
      by_cuts (later x between h k) =
          subst (PlaceIn at) (sym h) (place_ahead at t.before (x ∷ between) t.inside)
