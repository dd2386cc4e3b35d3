-- Completeness: the parser reads every text that a rule spells.
use Rattle.std.proofs.Common.{◌≡◌, ℕ, zero, suc, ◌<◌, ◌≤◌, Bool, true, false, not, ◌&&◌, ◌||◌, cond, List, [], ◌∷◌}
use Rattle.std.proofs.Common.{◌++◌, length, Result, Ok, Err, refl, sym, ap, ◌∙◌, subst, ◌⊎◌, inl, inr, arith}
use Rattle.std.proofs.lemmas.Bool.{and_parts, cond-true, cond-false, and_from}
use Rattle.grammar.specs.Rule.{Token}
use Rattle.grammar.specs.Rule.{Class, next, has, Rule, empty, one, unless, both, either, many, checked, deeper}
use Rattle.grammar.specs.Spelling.{Outcome, all, outcome_at, place, Span, Series, Spelled, ◌>>=◌}
use Rattle.grammar.specs.Reading.{nullable, first, stuck, flawed, Reader, Answer, one_at, series_at, check_value, read}
use Rattle.grammar.proofs.Sets.{or_left, or_right, in_left, in_right, out_left, out_right, apart, apart_back}
use Rattle.grammar.proofs.Sets.{not_both, not_true, without, out_without}
use Rattle.grammar.proofs.Table.{bar, more, none, fits}

-- It reads tokens, the first of which is in this class, or it reads none and is nullable.
abbrev pub Begins : {X : Type 0} → Class → Bool → List (Token X) → List (Token X) → Type 0
Begins class can u w = ((length w < length u) × (next class u ≡ true)) ⊎ ((can ≡ true) × (u ≡ w))

pub shorter : {X : Type 0} → (class : Class) (can : Bool) (u w : List (Token X)) → Begins class can u w
    → length w ≤ length u
shorter class can u w (inl h) = omega arith
shorter class can u w (inr h) = omega (arith, ap length h.1)

pub takes_some : {X : Type 0} → (class : Class) (can : Bool) (u w : List (Token X)) → can ≡ false
    → Begins class can u w → (length w < length u) × (next class u ≡ true)
takes_some class can u w never (inl h) = h
takes_some class can u w never (inr h) = absurd (not_both can h.0 never)

-- what the parser reads for this outcome
abbrev pub answer : {X F A : Type 0} → List (Token X) → Outcome F A → Answer X F A
answer w (Ok x) = Ok (x, w)
answer w (Err flaw) = Err (flawed flaw.0 flaw.1)

-- the outcome of a sequence
answer_both : {X F A B C : Type 0} (f : A → B → C) (m w : List (Token X)) (next_one : Reader X F B) (p : Outcome F A)
    (q : Outcome F B) → next_one m ≡ answer w q
    → (answer m p >>= λ x. next_one x.1 >>= λ y. Ok (f x.0 y.0, y.1)) ≡ answer w (p >>= λ x. q >>= λ y. Ok (f x y))
answer_both {X} {F} {A} {B} {C} f m w next_one (Ok x) q e = ap (λ (r : Answer X F B). r >>= λ y. Ok (f x y.0, y.1)) e
    ∙ by_case q
  where
    by_case : (q : Outcome F B) → (answer w q >>= λ y. Ok (f x y.0, y.1)) ≡ answer w (q >>= λ y. Ok (f x y))
    by_case (Ok y) = refl
    by_case (Err flaw) = refl
answer_both f m w next_one (Err flaw) q e = refl

answer_made : {X F A B : Type 0} (f : A → B) (w : List (Token X)) (p : Outcome F A)
    → (answer w p >>= λ x. Ok (f x.0, x.1)) ≡ answer w (p >>= λ x. Ok (f x))
answer_made f w (Ok x) = refl
answer_made f w (Err flaw) = refl

answer_checked : {X F A B : Type 0} (f : A → Result B F) (at : ℕ) (w : List (Token X)) (p : Outcome F A)
    → (answer w p >>= λ x. check_value at x.1 (f x.0)) ≡ answer w (p >>= λ x. outcome_at (f x) at)
answer_checked {X} {F} {A} {B} f at w (Ok x) = by_case (f x)
  where
    by_case : (r : Result B F) → check_value at w r ≡ answer w (outcome_at r at)
    by_case (Ok y) = refl
    by_case (Err flaw) = refl
answer_checked f at w (Err flaw) = refl

pub next_none : {X : Type 0} → (l : List (Token X)) → next [] l ≡ false
next_none [] = refl
next_none (t ∷ ts) = refl

module _ {X F N V : Type 0} (heads : N → Class) (inner : N → Span X F V)
    (starts : (n : N) (r : Outcome F V) (u w : List (Token X)) → inner n r u w → (length w < length u)
    × (next (heads n) u ≡ true)) where
  pub begins_series : {A : Type 0} (P : Span X F A) (class : Class) (can : Bool)
      → ((x : Outcome F A) (u w : List (Token X)) → P x u w → Begins class can u w)
      → (xs : List (Outcome F A)) (u w : List (Token X)) → Series P xs u w → Begins class true u w
  begins_series P class can each [] u w s = inr (refl, s)
  begins_series P class can each (x ∷ xs) u w (m, p, s) =
      by_case (each x u m p) (begins_series P class can each xs m w s)
    where
      by_case : Begins class can u m → Begins class true m w → Begins class true u w
      by_case (inl h) (inl i) = inl (omega arith, h.1)
      by_case (inl h) (inr i) = inl (subst (λ (l : List (Token X)). length l < length u) i.1 h.0, h.1)
      by_case (inr h) rest = subst (λ (l : List (Token X)). Begins class true l w) (sym h.1) rest

  pub begins : {A : Type 0} (e : Rule X F N V A) (r : Outcome F A) (u w : List (Token X)) → Spelled inner e r u w
      → Begins (first heads e) (nullable e) u w
  begins (empty x) r u w s = inr (refl, s.1)
  begins (one class f) r u w (t, is, h, x) = inl (omega (arith, ap length is), ap (next class) is ∙ h)
  begins (unless class x) r u w s = inr (refl, s.1)
  begins (both f a b) r u w (x, y, m, p, q, is) = by_case (begins a x u m p) (begins b y m w q)
    where
      by_case : Begins (first heads a) (nullable a) u m → Begins (first heads b) (nullable b) m w
          → Begins (first heads a ++ cond (nullable a) (first heads b) []) (nullable a && nullable b) u w
      by_case (inl h) rest = let r = shorter (first heads b) (nullable b) m w rest in inl
          (omega (arith, r, h.0), in_left (first heads a) (cond (nullable a) (first heads b) []) u h.1)
      by_case (inr h) (inl i) = inl (
        subst (λ (l : List (Token X)). length w < length l) (sym h.1) i.0,
        in_right (first heads a) (cond (nullable a) (first heads b) []) u
            (ap (λ (c : Class). next c u) (cond-true (nullable a) (first heads b) [] h.0)
            ∙ ap (next (first heads b)) h.1 ∙ i.1),
      )
      by_case (inr h) (inr i) = inr (and_from (nullable a) (nullable b) h.0 i.0, h.1 ∙ i.1)
  begins (either a b) r u w (inl s) = by_case (begins a r u w s)
    where
      by_case : Begins (first heads a) (nullable a) u w
          → Begins (first heads a ++ first heads b) (nullable a || nullable b) u w
      by_case (inl h) = inl (h.0, in_left (first heads a) (first heads b) u h.1)
      by_case (inr h) = inr (or_left (nullable a) (nullable b) h.0, h.1)
  begins (either a b) r u w (inr s) = by_case (begins b r u w s)
    where
      by_case : Begins (first heads b) (nullable b) u w
          → Begins (first heads a ++ first heads b) (nullable a || nullable b) u w
      by_case (inl h) = inl (h.0, in_right (first heads a) (first heads b) u h.1)
      by_case (inr h) = inr (or_right (nullable a) (nullable b) h.0, h.1)
  begins (many f a) r u w (xs, s, is) = begins_series (Spelled inner a) (first heads a) (nullable a) (begins a) xs u w s
  begins (checked f a) r u w (p, s, is) = begins a p u w s
  begins (deeper n f) r u w (x, s, is) = inl (starts n x u w s)

  -- the tokens that may not follow if nothing was read
  pub barred : {A : Type 0} (e : Rule X F N V A) (r : Outcome F A) (u w : List (Token X)) → Spelled inner e r u w
      → u ≡ w → next (bar e) w ≡ false
  barred (empty x) r u w s same = next_none w
  barred (one class f) r u w s same = next_none w
  barred (unless class x) r u w s same = s.2
  barred (both f a b) r u w s same = next_none w
  barred (either a b) r u w (inl s) same = by_case (begins a r u w s)
    where
      by_case : Begins (first heads a) (nullable a) u w → next (cond (nullable a) [] (bar b)) w ≡ false
      by_case (inl h) = absurd (omega (arith, h.0, ap length same))
      by_case (inr h) = ap (λ (c : Class). next c w) (cond-true (nullable a) [] (bar b) h.0) ∙ next_none w
  barred (either a b) r u w (inr s) same = by_case (nullable a) (barred b r u w s same)
    where
      by_case : (can : Bool) → next (bar b) w ≡ false → next (cond can [] (bar b)) w ≡ false
      by_case true e = next_none w
      by_case false e = e
  barred (many f a) r u w s same = next_none w
  barred (checked f a) r u w (p, s, is) same = barred a p u w s same
  barred (deeper n f) r u w s same = next_none w

  -- ---- with a parser of the names

  module _ (ends : N → Class) (by_name : N → Reader X F V)
      (known : (n : N) (r : Outcome F V) (u w : List (Token X)) → inner n r u w → next (ends n) w ≡ false
      → by_name n u ≡ answer w r) where
    abbrev Last : {A : Type 0} → Rule X F N V A → Class
    Last e = more false heads ends e

    -- a nullable rule that reads nothing leaves the tokens that may follow unchanged
    clear_before : {A B : Type 0} (a : Rule X F N V A) (b : Rule X F N V B) (m w : List (Token X))
        → apart (Last a) (first heads b) ≡ true → next (Last b ++ cond (nullable b) (without (bar b) (Last a)) [])
        w ≡ false → (m ≡ w → next (bar b) w ≡ false) → Begins (first heads b) (nullable b) m w → next (Last a) m ≡ false
    clear_before a b m w test clear free (inl h) = apart_back (Last a) (first heads b) m test h.1
    clear_before a b m w test clear free (inr h) =
        ap (next (Last a)) h.1 ∙ out_without (bar b) (Last a) w
        (ap (λ (c : Class). next c w) (sym (cond-true (nullable b) (without (bar b) (Last a)) [] h.0))
        ∙ out_right (Last b) (cond (nullable b) (without (bar b) (Last a)) []) w clear) (free h.1)

    other_side : {A : Type 0} (a b : Rule X F N V A) (u w : List (Token X))
        → apart (first heads a) (first heads b) ≡ true
        → next (cond (nullable b) (without (bar b) (first heads a)) []) w ≡ false → (u ≡ w → next (bar b) w ≡ false)
        → Begins (first heads b) (nullable b) u w → next (first heads a) u ≡ false
    other_side a b u w test clear free (inl h) = apart_back (first heads a) (first heads b) u test h.1
    other_side a b u w test clear free (inr h) = ap (next (first heads a)) h.1
        ∙ out_without (bar b) (first heads a) w
        (ap (λ (c : Class). next c w) (sym (cond-true (nullable b) (without (bar b) (first heads a)) [] h.0))
        ∙ clear) (free h.1)

    abbrev nothing : {A : Type 0} → List (Token X) → Answer X F (List A)
    nothing l = Ok ([], l)

    abbrev as_one : {A : Type 0} → A → Answer X F (List A) → Answer X F (List A)
    as_one x r = r >>= λ xs. Ok (x ∷ xs.0, xs.1)

    complete_series : {A : Type 0} (a : Rule X F N V A) → nullable a ≡ false → apart (Last a) (first heads a) ≡ true
        → ((x : Outcome F A) (u w : List (Token X)) → Spelled inner a x u w → next (Last a) w ≡ false
        → read heads by_name a u ≡ answer w x)
        → (xs : List (Outcome F A)) (u w : List (Token X)) → Series (Spelled inner a) xs u w
        → next (first heads a ++ Last a) w ≡ false → (n : ℕ) → length u ≤ n
        → series_at (first heads a) (read heads by_name a) n u ≡ answer w (all xs)
    complete_series {A} a some test each [] u w s clear n h = at_end n
      where
        over : next (first heads a) u ≡ false
        over = ap (next (first heads a)) s ∙ out_left (first heads a) (Last a) w clear

        at_end : (n : ℕ) → series_at (first heads a) (read heads by_name a) n u ≡ Ok ([], w)
        at_end zero = cond-false (next (first heads a) u) (Err (stuck (length u))) (nothing u) over ∙ ap nothing s
        at_end (suc n) = cond-false (next (first heads a) u)
            (read heads by_name a u >>= λ x. as_one x.0 (series_at (first heads a) (read heads by_name a) n x.1))
            (nothing u) over ∙ ap nothing s
    complete_series {A} a some test each (x ∷ xs) u w (m, p, s) clear n h =
        go n h (begins_series (Spelled inner a) (first heads a) (nullable a) (begins a) xs m w s)
        (complete_series a some test each xs m w s clear)
      where
        here : (length m < length u) × (next (first heads a) u ≡ true)
        here = takes_some (first heads a) (nullable a) u m some (begins a x u m p)

        first_read : Begins (first heads a) true m w → read heads by_name a u ≡ answer m x
        first_read (inl i) = each x u m p (apart_back (Last a) (first heads a) m test i.1)
        first_read (inr i) = each x u m p (ap (next (Last a)) i.1 ∙ out_right (first heads a) (Last a) w clear)

        go : (n : ℕ) → length u ≤ n → Begins (first heads a) true m w
            → ((k : ℕ) → length m ≤ k → series_at (first heads a) (read heads by_name a) k m ≡ answer w (all xs))
            → series_at (first heads a) (read heads by_name a) n u ≡ answer w (all (x ∷ xs))
        go zero i rest ih = absurd (omega (arith, here.0))
        go (suc k) i rest ih =
            cond-true (next (first heads a) u) (read heads by_name a u >>= λ y. as_one y.0
            (series_at (first heads a) (read heads by_name a) k y.1)) (Ok ([], u)) here.1
            ∙ ap (λ (r : Answer X F A). r >>= λ y. as_one y.0
            (series_at (first heads a) (read heads by_name a) k y.1)) (first_read rest)
            ∙ answer_both (λ y ys. y ∷ ys) m w (series_at (first heads a) (read heads by_name a) k) x (all xs)
            (ih k (omega (arith, here.0)))

    pub complete : {A : Type 0} (e : Rule X F N V A) → fits heads ends e ≡ true
        → (r : Outcome F A) (u w : List (Token X)) → Spelled inner e r u w → next (Last e) w ≡ false
        → read heads by_name e u ≡ answer w r
    complete (empty x) fit r u w s clear = ap (λ (l : List (Token X)). Ok (x, l)) s.1 ∙ ap (answer w) (sym s.0)
    complete (one {A} class f) fit r u w (t, is, h, eq) clear = ap (one_at class f) is
        ∙ cond-true (has class t) (Ok (f t, w)) (Err (stuck (suc (length w)))) h ∙ ap (answer w) (sym eq)
    complete (unless class x) fit r u w s clear = cond-false (next class u) (Err (stuck (length u))) (Ok (x, u))
        (ap (next class) s.1 ∙ s.2) ∙ ap (λ (l : List (Token X)). Ok (x, l)) s.1 ∙ ap (answer w) (sym s.0)
    complete (both {A} {B} {C} f a b) fit r u w (x, y, m, p, q, is) clear =
        let t = and_parts (fits heads ends a) (fits heads ends b && apart (Last a) (first heads b)) fit in
        let t' = and_parts (fits heads ends b) (apart (Last a) (first heads b)) t.1 in
        ap (λ (r : Answer X F A). r >>= (λ x. read heads by_name b x.1 >>= λ y. Ok (f x.0 y.0, y.1)))
        (complete a t.0 x u m p (clear_before a b m w t'.1 clear (barred b y m w q) (begins b y m w q)))
        ∙ answer_both f m w (read heads by_name b) x y
        (complete b t'.0 y m w q (out_left (Last b) (cond (nullable b) (without (bar b) (Last a)) []) w clear))
        ∙ ap (answer w) (sym is)
    complete (either a b) fit r u w (inl s) clear =
        let t = and_parts (fits heads ends a) (fits heads ends b &&
        (not (nullable a) && apart (first heads a) (first heads b))) fit in
        let t' = and_parts (fits heads ends b) (not (nullable a) && apart (first heads a) (first heads b)) t.1 in
        let t'' = and_parts (not (nullable a)) (apart (first heads a) (first heads b)) t'.1 in
        let here = takes_some (first heads a) (nullable a) u w (not_true (nullable a) t''.0) (begins a r u w s) in
        cond-true (next (first heads a) u) (read heads by_name a u) (read heads by_name b u) here.1
        ∙ complete a t.0 r u w s
        (out_left (Last a) (Last b ++ cond (nullable b) (without (bar b) (first heads a)) []) w clear)
    complete (either a b) fit r u w (inr s) clear =
        let t = and_parts (fits heads ends a) (fits heads ends b &&
        (not (nullable a) && apart (first heads a) (first heads b))) fit in
        let t' = and_parts (fits heads ends b) (not (nullable a) && apart (first heads a) (first heads b)) t.1 in
        let t'' = and_parts (not (nullable a)) (apart (first heads a) (first heads b)) t'.1 in
        let clear' = out_right (Last a) (Last b ++ cond (nullable b) (without (bar b) (first heads a)) []) w clear in
        cond-false (next (first heads a) u) (read heads by_name a u) (read heads by_name b u)
        (other_side a b u w t''.1 (out_right (Last b) (cond (nullable b) (without (bar b) (first heads a)) [])
        w clear') (barred b r u w s) (begins b r u w s))
        ∙ complete b t'.0 r u w s (out_left (Last b) (cond (nullable b) (without (bar b) (first heads a)) []) w clear')
    complete (many {A} {B} f a) fit r u w (xs, s, is) clear =
        let t = and_parts (fits heads ends a) (not (nullable a) && apart (Last a) (first heads a)) fit in
        let t' = and_parts (not (nullable a)) (apart (Last a) (first heads a)) t.1 in
        ap (λ (r : Answer X F (List A)). r >>= λ xs. Ok (f xs.0, xs.1))
        (complete_series a (not_true (nullable a) t'.0) t'.1 (complete a t.0) xs u w s clear (length u) (omega arith))
        ∙ answer_made f w (all xs) ∙ ap (answer w) (sym is)
    complete (checked {A} f a) fit r u w (p, s, is) clear =
        ap (λ (r : Answer X F A). r >>= λ x. check_value (place u) x.1 (f x.0))
        (complete a (and_parts (fits heads ends a) (not (nullable a) && none (Last a)) fit).0 p u w s clear)
        ∙ answer_checked f (place u) w p ∙ ap (answer w) (sym is)
    complete (deeper {A} n f) fit r u w (x, s, is) clear =
        ap (λ (r : Answer X F V). r >>= λ x. Ok (f x.0, x.1)) (known n x u w s clear) ∙ answer_made f w x
        ∙ ap (answer w) (sym is)
