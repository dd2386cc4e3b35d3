-- The places of the flaws of texts and of items.
use Rattle.std.proofs.Common.{◌≡◌, ℕ, zero, suc, ◌<◌, true, false, List, [], ◌∷◌, ◌++◌}
use Rattle.std.proofs.Common.{length, Result, Ok, Err, refl, sym, ap, ◌∙◌, subst, inl, inr, arith, append_assoc}
use Rattle.grammar.specs.Rule.{Token, Class, next, Rule}
use Rattle.grammar.specs.Rule.{empty, one, unless, both, either, many, checked, deeper}
use Rattle.grammar.specs.Spelling.{Flaw, too_deep, Outcome, ◌>>=◌, all, outcome_at, place, Span, Series, Spelled}
use Rattle.grammar.specs.Spelling.{Within, Named, FlawsOf, FlawIn, FlawInside}
use Rattle.grammar.specs.Reading.{nullable, first}
use Rattle.grammar.proofs.Table.{fits}
use Rattle.grammar.proofs.Parts.{Fits, both_fits, either_fits, many_fits, checked_fits}
use Rattle.grammar.proofs.Complete.{begins, takes_some}
use Rattle.grammar.proofs.Good.{PlaceIn, place_behind, place_ahead}

-- the flaw, if there is one, is among these tokens
abbrev pub FlawStands : {X F A : Type 0} → Outcome F A → List (Token X) → Type 0
FlawStands (Ok x) front = Unit {0}
FlawStands (Err flaw) front = PlaceIn flaw.1 front

-- The text is some tokens followed by the rest, and the flaw of the outcome is among those tokens.
pub record Spans {X F A : Type 0} (r : Outcome F A) (u w : List (Token X)) : Type 0 where
  pub front : List (Token X)
  pub parts : u ≡ front ++ w
  pub stands : FlawStands r front

stands_both : {X F A B C : Type 0} (f : A → B → C) (a b : List (Token X)) (p : Outcome F A) (q : Outcome F B)
    → FlawStands p a → FlawStands q b → FlawStands (p >>= λ x. q >>= λ y. Ok (f x y)) (a ++ b)
stands_both f a b (Ok x) (Ok y) s t = tt
stands_both f a b (Ok x) (Err flaw) s t = place_behind flaw.1 a b t
stands_both f a b (Err flaw) q s t = place_ahead flaw.1 a b s

stands_made : {X F A B : Type 0} (f : A → B) (a : List (Token X)) (p : Outcome F A) → FlawStands p a
    → FlawStands (p >>= λ x. Ok (f x)) a
stands_made f a (Ok x) s = tt
stands_made f a (Err flaw) s = s

stands_judged : {X F A B : Type 0} (f : A → Result B F) (at : ℕ) (a : List (Token X)) (p : Outcome F A) → PlaceIn at a
    → FlawStands p a → FlawStands (p >>= λ x. outcome_at (f x) at) a
stands_judged {X} {F} {A} {B} f at a (Ok x) here s = by_value (f x)
  where
    by_value : (r : Result B F) → FlawStands (outcome_at r at) a
    by_value (Ok y) = tt
    by_value (Err reason) = here
stands_judged f at a (Err flaw) here s = s

-- sequences
spans_both : {X F A B C : Type 0} (f : A → B → C) (p : Outcome F A) (q : Outcome F B) (u m w : List (Token X))
    → Spans p u m → Spans q m w → Spans (p >>= λ x. q >>= λ y. Ok (f x y)) u w
spans_both {X} f p q u m w s t = record {
  front = s.front ++ t.front;
  parts = s.parts ∙ ap (λ (l : List (Token X)). s.front ++ l) t.parts ∙ sym (append_assoc s.front t.front w);
  stands = stands_both f s.front t.front p q s.stands t.stands;
}

spans_as : {X F A : Type 0} (r q : Outcome F A) (u w : List (Token X)) → r ≡ q → Spans q u w → Spans r u w
spans_as {X} {F} {A} r q u w e s = subst (λ (o : Outcome F A). Spans o u w) (sym e) s

spans_none : {X F A : Type 0} (x : A) (u w : List (Token X)) → u ≡ w → Spans {F = F} (Ok x) u w
spans_none x u w e = record { front = []; parts = e; stands = tt }

-- the next token's place is one of the places of the tokens that are read
place_taken : {X : Type 0} (u front w : List (Token X)) → u ≡ front ++ w → length w < length u → PlaceIn (place u) front
place_taken u [] w parts less = absurd (omega (arith, less, ap length parts))
place_taken u (t ∷ ts) w parts less =
    record { before = []; token = t; behind = ts; parts = refl; place_is = ap place parts }

place_of_next : {X : Type 0} (c : Class) (u : List (Token X)) → next c u ≡ true → PlaceIn (place u) u
place_of_next c [] is = absurd cc
place_of_next c (t ∷ ts) is = record { before = []; token = t; behind = ts; parts = refl; place_is = refl }

module _ {X F N V : Type 0} (heads : N → Class) (inner : N → Span X F V) (ends : N → Class)
    (starts : (n : N) (r : Outcome F V) (u w : List (Token X)) → inner n r u w
    → (length w < length u) × (next (heads n) u ≡ true))
    (span_name : (n : N) (r : Outcome F V) (u w : List (Token X)) → inner n r u w → Spans r u w) where
  pub spans_series : {A : Type 0} (P : Span X F A) → ((r : Outcome F A) (u w : List (Token X)) → P r u w → Spans r u w)
      → (xs : List (Outcome F A)) (u w : List (Token X)) → Series P xs u w → Spans (all xs) u w
  spans_series P each [] u w s = spans_none [] u w s
  spans_series P each (x ∷ xs) u w (m, p, s) =
      spans_both (λ y ys. y ∷ ys) x (all xs) u m w (each x u m p) (spans_series P each xs m w s)

  -- an item has at least one token
  item_takes : {A : Type 0} (a : Rule X F N V A) → nullable a ≡ false → (r : Outcome F A) (u w : List (Token X))
      → Spelled inner a r u w → (length w < length u) × (next (first heads a) u ≡ true)
  item_takes a some r u w s =
      takes_some (first heads a) (nullable a) u w some (begins heads inner starts a r u w s)

  pub spans : {A : Type 0} (e : Rule X F N V A) → Fits heads ends e → (r : Outcome F A) (u w : List (Token X))
      → Spelled inner e r u w → Spans r u w
  spans (empty x) fit r u w s = spans_as r (Ok x) u w s.0 (spans_none x u w s.1)
  spans (one class f) fit r u w (t, is, h, e) =
      spans_as r (Ok (f t)) u w e (record { front = t ∷ []; parts = is; stands = tt })
  spans (unless class x) fit r u w s = spans_as r (Ok x) u w s.0 (spans_none x u w s.1)
  spans (both f a b) fit r u w (p, q, m, s, t, e) =
      let k = both_fits heads ends a b fit in
      spans_as r (p >>= λ x. q >>= λ y. Ok (f x y)) u w e
      (spans_both f p q u m w (spans a k.0 p u m s) (spans b k.1 q m w t))
  spans (either a b) fit r u w (inl s) = spans a (either_fits heads ends a b fit).0 r u w s
  spans (either a b) fit r u w (inr s) = spans b (either_fits heads ends a b fit).1 r u w s
  spans (many {A} f a) fit r u w (xs, s, e) =
      let t = spans_series (Spelled inner a) (spans a (many_fits heads ends a fit).0) xs u w s in
      spans_as r (all xs >>= λ ys. Ok (f ys)) u w e
      (record { front = t.front; parts = t.parts; stands = stands_made f t.front (all xs) t.stands })
  spans (checked {A} f a) fit r u w (p, s, e) =
      let k = checked_fits heads ends a fit in
      let t = spans a k.0 p u w s in
      let here = place_taken u t.front w t.parts (item_takes a k.1 p u w s).0 in
      spans_as r (p >>= λ x. outcome_at (f x) (place u)) u w e
      (record { front = t.front; parts = t.parts; stands = stands_judged f (place u) t.front p here t.stands })
  spans (deeper n f) fit r u w (p, s, e) =
      let t = span_name n p u w s in
      spans_as r (p >>= λ x. Ok (f x)) u w e
      (record { front = t.front; parts = t.parts; stands = stands_made f t.front p t.stands })

  -- after the text of the rule
  pub behind_span : {A : Type 0} (r : Outcome F A) (at : ℕ) (u m : List (Token X)) → Spans r u m → PlaceIn at m
      → PlaceIn at u
  behind_span r at u m s p = subst (PlaceIn at) (sym s.parts) (place_behind at s.front m p)

  module _ (deep : N → FlawsOf X F)
      (flaw_name : (n : N) (flaw : Flaw F × ℕ) (u : List (Token X)) → deep n flaw u → PlaceIn flaw.1 u) where
    -- an item with a flaw is in the text
    pub flaw_stands : {A : Type 0} (e : Rule X F N V A) → Fits heads ends e → (flaw : Flaw F × ℕ) (u : List (Token X))
        → FlawIn inner deep e flaw u → PlaceIn flaw.1 u
    flaw_stands (empty x) fit flaw u s = absurd s
    flaw_stands (one class f) fit flaw u s = absurd s
    flaw_stands (unless class x) fit flaw u s = absurd s
    flaw_stands (both f a b) fit flaw u (inl s) = flaw_stands a (both_fits heads ends a b fit).0 flaw u s
    flaw_stands (both f a b) fit flaw u (inr (p, m, s, t)) =
        let k = both_fits heads ends a b fit in
        behind_span p flaw.1 u m (spans a k.0 p u m s) (flaw_stands b k.1 flaw m t)
    flaw_stands (either a b) fit flaw u (inl s) = flaw_stands a (either_fits heads ends a b fit).0 flaw u s
    flaw_stands (either a b) fit flaw u (inr s) = flaw_stands b (either_fits heads ends a b fit).1 flaw u s
    flaw_stands (many f a) fit flaw u (xs, m, s, t) =
        let k = many_fits heads ends a fit in
        behind_span (all xs) flaw.1 u m (spans_series (Spelled inner a) (spans a k.0) xs u m s)
        (flaw_stands a k.0 flaw m t)
    flaw_stands (checked f a) fit flaw u (inl s) = flaw_stands a (checked_fits heads ends a fit).0 flaw u s
    flaw_stands (checked f a) fit flaw u (inr (x, reason, w, s, is, same)) =
        subst (λ (at : ℕ). PlaceIn at u) (sym (ap (λ (k : Flaw F × ℕ). k.1) same))
        (place_of_next (first heads a) u (item_takes a (checked_fits heads ends a fit).1 (Ok x) u w s).1)
    flaw_stands (deeper n f) fit flaw u s = flaw_name n flaw u s

-- ---- names

module _ {X F N V : Type 0} (heads : N → Class) (rules : N → Rule X F N V V) (ends : N → Class)
    (fit : (n : N) → fits heads ends (rules n) ≡ true)
    (starts : (height depth : ℕ) (n : N) (r : Outcome F V) (u w : List (Token X))
    → Within heads rules height depth n r u w → (length w < length u) × (next (heads n) u ≡ true)) where
  pub spans_at : (height depth : ℕ) (n : N) (r : Outcome F V) (u w : List (Token X))
      → Within heads rules height depth n r u w → Spans r u w
  spans_at zero depth n r u w s = absurd s
  spans_at (suc height) zero n r u w (is, p, (t, m, parts, head, s)) =
      let k = spans heads (Within heads rules height zero) ends (starts height zero) (spans_at height zero) (rules n)
      (fit n) p m w s in
      spans_as r (Err (too_deep, place u)) u w is (record {
        front = t ∷ k.front;
        parts = parts ∙ ap (λ (l : List (Token X)). t ∷ l) k.parts;
        stands = record { before = []; token = t; behind = k.front; parts = refl; place_is = ap place parts };
      })
  spans_at (suc height) (suc depth) n r u w (t, m, parts, head, s) =
      let k = spans heads (Within heads rules height depth) ends (starts height depth) (spans_at height depth) (rules n)
      (fit n) r m w s in
      record {
        front = t ∷ k.front;
        parts = parts ∙ ap (λ (l : List (Token X)). t ∷ l) k.parts;
        stands = stands_behind r k.front k.stands;
      }
    where
      stands_behind : (r : Outcome F V) (front : List (Token X)) → FlawStands r front → FlawStands r (t ∷ front)
      stands_behind (Ok x) front s = tt
      stands_behind (Err flaw) front s = place_behind flaw.1 (t ∷ []) front s

  pub flaw_stands_in : (depth : ℕ) (n : N) (flaw : Flaw F × ℕ) (u : List (Token X))
      → FlawInside heads rules depth n flaw u → PlaceIn flaw.1 u
  flaw_stands_in zero n flaw u (is, same) =
      subst (λ (at : ℕ). PlaceIn at u) (sym (ap (λ (k : Flaw F × ℕ). k.1) same)) (place_of_next (heads n) u is)
  flaw_stands_in (suc depth) n flaw u (t, m, parts, head, s) =
      let behind = flaw_stands heads (Named heads rules depth) ends (λ n r u w s. starts s.0 depth n r u w s.1)
      (λ n r u w s. spans_at s.0 depth n r u w s.1) (FlawInside heads rules depth) (flaw_stands_in depth) (rules n)
      (fit n) flaw m s in
      subst (PlaceIn flaw.1) (sym parts) (place_behind flaw.1 (t ∷ []) m behind)
