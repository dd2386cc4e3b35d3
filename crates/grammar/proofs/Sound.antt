-- Soundness: the rule spells every text that the parser reads.
use Rattle.std.proofs.Common.{◌≡◌, ℕ, zero, suc, Bool, true, false, cond, List, [], ◌∷◌, length, Result, Ok, Err}
use Rattle.std.proofs.Common.{refl, sym, ap, ◌∙◌, subst, ◌⊎◌, inl, inr}
use Rattle.grammar.specs.Rule.{Token}
use Rattle.grammar.specs.Rule.{Class, next, has, Rule, empty, one, unless, both, either, many, checked, deeper}
use Rattle.grammar.specs.Spelling.{Outcome, all, outcome_at, place, Span, Series, Spelled, ◌>>=◌}
use Rattle.grammar.specs.Reading.{first, stuck, Reader, Answer, series_at, check_value, read}

pub bind_ok : {A B E : Type 0} (r : Result A E) (f : A → Result B E) (y : B) → (r >>= f) ≡ Ok y → (x : A)
    × (r ≡ Ok x) × (f x ≡ Ok y)
bind_ok (Ok x) f y e = (x, refl, e)
bind_ok (Err stop) f y e = absurd cc

pub chosen : {A : Type 0} (b : Bool) (x y z : A) → cond b x y ≡ z → ((b ≡ true) × (x ≡ z)) ⊎ ((b ≡ false) × (y ≡ z))
chosen true x y z e = inl (refl, e)
chosen false x y z e = inr (refl, e)

abbrev pub taken : {X F A : Type 0} → A → List (Token X) → Answer X F A
taken x w = Ok (x, w)

abbrev fst_of : {X A E : Type 0} → A × List (Token X) → Result (A × List (Token X)) E → A
fst_of d (Ok x) = x.0
fst_of d (Err stop) = d.0

abbrev snd_of : {X A E : Type 0} → A × List (Token X) → Result (A × List (Token X)) E → List (Token X)
snd_of d (Ok x) = x.1
snd_of d (Err stop) = d.1

-- the parts of what was read
pub value_is : {X F A : Type 0} (x y : A) (u w : List (Token X)) → taken {F = F} x u ≡ taken {F = F} y w → x ≡ y
value_is x y u w e = ap (fst_of (x, u)) e

pub rest_is : {X F A : Type 0} (x y : A) (u w : List (Token X)) → taken {F = F} x u ≡ taken {F = F} y w → u ≡ w
rest_is x y u w e = ap (snd_of (x, u)) e

passes_ok : {X F B : Type 0} (at : ℕ) (m : List (Token X)) (r : Result B F) (y : B) (w : List (Token X))
    → check_value at m r ≡ Ok (y, w) → (outcome_at r at ≡ Ok y) × (m ≡ w)
passes_ok at m (Ok x) y w e = (ap Ok (value_is x y m w e), rest_is x y m w e)
passes_ok at m (Err flaw) y w e = absurd cc

module _ {X F N V : Type 0} (heads : N → Class) (inner : N → Span X F V) (by_name : N → Reader X F V)
    (sound_name : (n : N) (v : V) (u w : List (Token X)) → by_name n u ≡ Ok (v, w) → inner n (Ok v) u w) where
  abbrev pub SeriesOf : {A : Type 0} → Rule X F N V A → List A → List (Token X) → List (Token X) → Type 0
  SeriesOf {A} a xs u w = (os : List (Outcome F A)) × Series (Spelled inner a) os u w × (all os ≡ Ok xs)

  pub sound_series : {A : Type 0} (a : Rule X F N V A)
      → ((x : A) (u w : List (Token X)) → read heads by_name a u ≡ Ok (x, w) → Spelled inner a (Ok x) u w)
      → (n : ℕ) (u : List (Token X)) (xs : List A) (w : List (Token X))
      → series_at (first heads a) (read heads by_name a) n u ≡ Ok (xs, w) → SeriesOf a xs u w
  sound_series {A} a each zero u xs w e =
      by_case (chosen (next (first heads a) u) (Err (stuck (length u))) (Ok ([], u)) (Ok (xs, w)) e)
    where
      by_case : ((next (first heads a) u ≡ true) × (Err (stuck (length u)) ≡ taken {F = F} xs w))
          ⊎ ((next (first heads a) u ≡ false) × (taken [] u ≡ taken {F = F} xs w)) → SeriesOf a xs u w
      by_case (inl h) = absurd cc
      by_case (inr h) = ([], rest_is [] xs u w h.1, ap Ok (value_is [] xs u w h.1))
  sound_series {A} a each (suc n) u xs w e =
      by_case (chosen (next (first heads a) u) (read heads by_name a u >>= λ x. more x) (Ok ([], u)) (Ok (xs, w)) e)
      (sound_series a each n)
    where
      more : A × List (Token X) → Answer X F (List A)
      more x = series_at (first heads a) (read heads by_name a) n x.1 >>= λ ys. Ok (x.0 ∷ ys.0, ys.1)

      by_case : ((next (first heads a) u ≡ true) × ((read heads by_name a u >>= λ x. more x) ≡ Ok (xs, w)))
          ⊎ ((next (first heads a) u ≡ false) × (taken [] u ≡ taken {F = F} xs w))
          → ((m : List (Token X)) (ys : List A) (w : List (Token X))
          → series_at (first heads a) (read heads by_name a) n m ≡ Ok (ys, w) → SeriesOf a ys m w) → SeriesOf a xs u w
      by_case (inr h) ih = ([], rest_is [] xs u w h.1, ap Ok (value_is [] xs u w h.1))
      by_case (inl h) ih =
          let p = bind_ok (read heads by_name a u) more (xs, w) h.1 in
          let q = bind_ok (series_at (first heads a) (read heads by_name a) n p.0.1) (λ ys. Ok (p.0.0 ∷ ys.0, ys.1))
          (xs, w) p.2 in
          let s = ih p.0.1 q.0.0 q.0.1 q.1 in (
            Ok p.0.0 ∷ s.0,
            (
              p.0.1,
              each p.0.0 u p.0.1 p.1,
              subst (Series (Spelled inner a) s.0 p.0.1)
                  (rest_is (p.0.0 ∷ q.0.0) xs q.0.1 w q.2) s.1,
            ),
            ap (λ (r : Outcome F (List A)). r >>= λ ys. Ok (p.0.0 ∷ ys)) s.2
                ∙ ap Ok (value_is (p.0.0 ∷ q.0.0) xs q.0.1 w q.2),
          )

  pub sound : {A : Type 0} (e : Rule X F N V A) (x : A) (u w : List (Token X)) → read heads by_name e u ≡ Ok (x, w)
      → Spelled inner e (Ok x) u w
  sound (empty y) x u w e = (sym (ap Ok (value_is y x u w e)), rest_is y x u w e)
  sound (one class f) x [] w e = absurd cc
  sound (one class f) x (t ∷ ts) w e =
      by_case (chosen (has class t) (Ok (f t, ts)) (Err (stuck (suc (length ts)))) (Ok (x, w)) e)
    where
      by_case : ((has class t ≡ true) × (taken (f t) ts ≡ taken {F = F} x w))
          ⊎ ((has class t ≡ false) × (Err (stuck (suc (length ts))) ≡ taken {F = F} x w))
          → Spelled inner (one class f) (Ok x) (t ∷ ts) w
      by_case (inl h) = (
        t,
        ap (λ (l : List (Token X)). t ∷ l) (rest_is (f t) x ts w h.1),
        h.0,
        sym (ap Ok (value_is (f t) x ts w h.1)),
      )
      by_case (inr h) = absurd cc
  sound (unless class y) x u w e = by_case (chosen (next class u) (Err (stuck (length u))) (Ok (y, u)) (Ok (x, w)) e)
    where
      by_case : ((next class u ≡ true) × (Err (stuck (length u)) ≡ taken {F = F} x w))
          ⊎ ((next class u ≡ false) × (taken y u ≡ taken {F = F} x w)) → Spelled inner (unless class y) (Ok x) u w
      by_case (inl h) = absurd cc
      by_case (inr h) = (
        sym (ap Ok (value_is y x u w h.1)),
        rest_is y x u w h.1,
        ap (next class) (sym (rest_is y x u w h.1)) ∙ h.0,
      )
  sound (both {A} {B} f a b) x u w e =
      let p = bind_ok (read heads by_name a u) (λ x. read heads by_name b x.1 >>= λ y. Ok (f x.0 y.0, y.1)) (x, w) e in
      let q = bind_ok (read heads by_name b p.0.1) (λ y. Ok (f p.0.0 y.0, y.1)) (x, w) p.2 in (
        Ok p.0.0,
        Ok q.0.0,
        p.0.1,
        sound a p.0.0 u p.0.1 p.1,
        subst (Spelled inner b (Ok q.0.0) p.0.1) (rest_is (f p.0.0 q.0.0) x q.0.1 w q.2)
            (sound b q.0.0 p.0.1 q.0.1 q.1),
        sym (ap Ok (value_is (f p.0.0 q.0.0) x q.0.1 w q.2)),
      )
  sound (either a b) x u w e = by_case (chosen (next (first heads a) u) (read heads by_name a u)
      (read heads by_name b u) (Ok (x, w)) e) (sound a x u w) (sound b x u w)
    where
      by_case : ((next (first heads a) u ≡ true) × (read heads by_name a u ≡ Ok (x, w)))
          ⊎ ((next (first heads a) u ≡ false) × (read heads by_name b u ≡ Ok (x, w)))
          → (read heads by_name a u ≡ Ok (x, w) → Spelled inner a (Ok x) u w)
          → (read heads by_name b u ≡ Ok (x, w) → Spelled inner b (Ok x) u w) → Spelled inner (either a b) (Ok x) u w
      by_case (inl h) left right = inl (left h.1)
      by_case (inr h) left right = inr (right h.1)
  sound (many {A} f a) x u w e =
      let p = bind_ok (series_at (first heads a) (read heads by_name a) (length u) u) (λ xs. Ok (f xs.0, xs.1))
      (x, w) e in
      let s = sound_series a (sound a) (length u) u p.0.0 p.0.1 p.1 in (
        s.0,
        subst (Series (Spelled inner a) s.0 u) (rest_is (f p.0.0) x p.0.1 w p.2) s.1,
        sym (ap (λ (r : Outcome F (List A)). r >>= λ ys. Ok (f ys)) s.2 ∙ ap Ok (value_is (f p.0.0) x p.0.1 w p.2)),
      )
  sound (checked f a) x u w e =
      let p = bind_ok (read heads by_name a u) (λ y. check_value (place u) y.1 (f y.0)) (x, w) e in
      let q = passes_ok (place u) p.0.1 (f p.0.0) x w p.2 in
      (Ok p.0.0, subst (Spelled inner a (Ok p.0.0) u) q.1 (sound a p.0.0 u p.0.1 p.1), sym q.0)
  sound (deeper n f) x u w e =
      let p = bind_ok (by_name n u) (λ y. Ok (f y.0, y.1)) (x, w) e in (
        Ok p.0.0,
        subst (inner n (Ok p.0.0) u) (rest_is (f p.0.0) x p.0.1 w p.2) (sound_name n p.0.0 u p.0.1 p.1),
        sym (ap Ok (value_is (f p.0.0) x p.0.1 w p.2)),
      )
