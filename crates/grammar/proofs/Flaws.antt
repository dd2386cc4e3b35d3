-- The parser reports the first flaw of a text.
use Rattle.std.proofs.Common.{◌≡◌, ℕ, zero, suc, ◌<◌, ◌≤◌, true, false, cond, List, [], ◌∷◌, ◌++◌}
use Rattle.std.proofs.Common.{length, Result, Ok, Err, refl, sym, ap, ◌∙◌, subst, ◌⊎◌, inl, inr, arith, append_assoc}
use Rattle.std.proofs.lemmas.Bool.{cond-true, cond-false}
use Rattle.grammar.specs.Rule.{Token, Class, next, has, Rule}
use Rattle.grammar.specs.Rule.{empty, one, unless, both, either, many, checked, deeper}
use Rattle.grammar.specs.Spelling.{Flaw, refused, Outcome, all, place, Span, Series, Spelled, ◌>>=◌, FlawsOf, FlawIn}
use Rattle.grammar.specs.Reading.{nullable, first, stuck, flawed, Reader, Answer, series_at, check_value, read}
use Rattle.grammar.proofs.Sets.{in_left, in_right, apart, apart_back}
use Rattle.grammar.proofs.Table.{none}
use Rattle.grammar.proofs.Parts.{Fits, Last, both_fits, either_fits, many_fits, checked_fits}
use Rattle.grammar.proofs.Complete.{Begins, begins, takes_some, begins_series, next_none, answer, complete}
use Rattle.grammar.proofs.Sound.{chosen, sound}
use Rattle.grammar.proofs.Good.{PlaceIn, place_behind}
use Rattle.grammar.proofs.Spans.{Spans, spans, spans_series, behind_span, flaw_stands}

abbrev pub stopped : {X F A : Type 0} → Flaw F × ℕ → Answer X F A
stopped flaw = Err (flawed flaw.0 flaw.1)

abbrev given : {X F A : Type 0} → A → List (Token X) → Answer X F A
given x w = Ok (x, w)

-- where the parser stops in a sequence
bind_err : {A B E : Type 0} (r : Result A E) (f : A → Result B E) (stop : E) → (r >>= f) ≡ Err stop
    → (r ≡ Err stop) ⊎ ((x : A) × (r ≡ Ok x) × (f x ≡ Err stop))
bind_err (Ok x) f stop e = inr (x, refl, e)
bind_err (Err other) f stop e = inl (let same : other ≡ stop = cc in ap Err same)

not_given : {X F A : Type 0} (x : A) (w : List (Token X)) (flaw : Flaw F × ℕ) → given x w ≡ stopped flaw → ⊥
not_given x w flaw e = cc

pub not_stuck : {X F A : Type 0} (n : ℕ) (flaw : Flaw F × ℕ) → Err (stuck n) ≡ stopped {X = X} {A = A} flaw → ⊥
not_stuck n flaw e = cc

pub same_flaw : {X F A : Type 0} (one other : Flaw F × ℕ) → stopped {X = X} {A = A} one ≡ stopped other → one ≡ other
same_flaw (a, m) (b, n) e = let p : a ≡ b = cc in let q : m ≡ n = cc in ap (λ x. (x, m)) p ∙ ap (λ k. (b, k)) q

passes_err : {X F B : Type 0} (at : ℕ) (w : List (Token X)) (r : Result B F) (flaw : Flaw F × ℕ)
    → check_value at w r ≡ stopped flaw → (reason : F) × (r ≡ Err reason) × (flaw ≡ (refused reason, at))
passes_err at w (Ok y) flaw e = absurd (not_given y w flaw e)
passes_err {X} {F} {B} at w (Err reason) flaw e =
    (reason, refl, sym (same_flaw {X = X} {A = B} (refused reason, at) flaw e))

-- ---- the text has the flaw that the parser reports

module _ {X F N V : Type 0} (heads : N → Class) (inner : N → Span X F V) (deep : N → FlawsOf X F)
    (by_name : N → Reader X F V)
    (sound_name : (n : N) (v : V) (u w : List (Token X)) → by_name n u ≡ Ok (v, w) → inner n (Ok v) u w)
    (flaw_name : (n : N) (flaw : Flaw F × ℕ) (u : List (Token X)) → by_name n u ≡ stopped flaw → deep n flaw u) where
  abbrev Sound : {A : Type 0} → Rule X F N V A → Type 0
  Sound {A} a = (x : A) (u w : List (Token X)) → read heads by_name a u ≡ Ok (x, w) → Spelled inner a (Ok x) u w

  abbrev SoundFlaw : {A : Type 0} → Rule X F N V A → Type 0
  SoundFlaw a = (flaw : Flaw F × ℕ) (u : List (Token X)) → read heads by_name a u ≡ stopped flaw
      → FlawIn inner deep a flaw u

  abbrev FlawBehind : {A : Type 0} → Rule X F N V A → Flaw F × ℕ → List (Token X) → Type 0
  FlawBehind {A} a flaw u =
      (xs : List (Outcome F A)) × (m : List (Token X)) × Series (Spelled inner a) xs u m × FlawIn inner deep a flaw m

  sound_flaw_series : {A : Type 0} (a : Rule X F N V A) → Sound a → SoundFlaw a → (n : ℕ) (flaw : Flaw F × ℕ)
      (u : List (Token X)) → series_at (first heads a) (read heads by_name a) n u ≡ stopped flaw → FlawBehind a flaw u
  sound_flaw_series {A} a is flawed_so zero flaw u e =
      by_case (chosen (next (first heads a) u) (Err (stuck (length u))) (given [] u) (stopped flaw) e)
    where
      by_case : ((next (first heads a) u ≡ true) × (Err (stuck (length u)) ≡ stopped {X = X} {A = List A} flaw))
          ⊎ ((next (first heads a) u ≡ false) × (given {A = List A} [] u ≡ stopped flaw)) → FlawBehind a flaw u
      by_case (inl h) = absurd (not_stuck {X = X} {A = List A} (length u) flaw h.1)
      by_case (inr h) = absurd (not_given {A = List A} [] u flaw h.1)
  sound_flaw_series {A} a is flawed_so (suc n) flaw u e =
      by_case (chosen (next (first heads a) u) (read heads by_name a u >>= others) (given [] u) (stopped flaw) e)
      (sound_flaw_series a is flawed_so n)
    where
      put : A → Answer X F (List A) → Answer X F (List A)
      put x r = r >>= λ xs. Ok (x ∷ xs.0, xs.1)

      others : A × List (Token X) → Answer X F (List A)
      others x = series_at (first heads a) (read heads by_name a) n x.1 >>= λ xs. Ok (x.0 ∷ xs.0, xs.1)

      Rest : Type 0
      Rest = (flaw : Flaw F × ℕ) (u : List (Token X))
          → series_at (first heads a) (read heads by_name a) n u ≡ stopped flaw → FlawBehind a flaw u

      by_rest : (x : A) (w : List (Token X)) → read heads by_name a u ≡ Ok (x, w)
          → (series_at (first heads a) (read heads by_name a) n w ≡ stopped flaw)
          ⊎ ((y : List A × List (Token X)) × (series_at (first heads a) (read heads by_name a) n w ≡ Ok y)
          × (given (x ∷ y.0) y.1 ≡ stopped flaw)) → Rest → FlawBehind a flaw u
      by_rest x w was (inl h) behind = let s = behind flaw w h in (Ok x ∷ s.0, s.1, (w, is x u w was, s.2), s.3)
      by_rest x w was (inr h) behind = absurd (not_given (x ∷ h.0.0) h.0.1 flaw h.2)

      by_first : (read heads by_name a u ≡ stopped flaw)
          ⊎ ((x : A × List (Token X)) × (read heads by_name a u ≡ Ok x) × (others x ≡ stopped flaw)) → Rest
          → FlawBehind a flaw u
      by_first (inl h) behind = ([], u, refl, flawed_so flaw u h)
      by_first (inr h) behind =
          by_rest h.0.0 h.0.1 h.1
          (bind_err (series_at (first heads a) (read heads by_name a) n h.0.1) (λ xs. Ok (h.0.0 ∷ xs.0, xs.1))
          (flawed flaw.0 flaw.1) h.2) behind

      by_case : ((next (first heads a) u ≡ true) × ((read heads by_name a u >>= others) ≡ stopped flaw))
          ⊎ ((next (first heads a) u ≡ false) × (given {A = List A} [] u ≡ stopped flaw)) → Rest → FlawBehind a flaw u
      by_case (inl h) behind = by_first (bind_err (read heads by_name a u) others (flawed flaw.0 flaw.1) h.1) behind
      by_case (inr h) behind = absurd (not_given {A = List A} [] u flaw h.1)

  sound_of : {A : Type 0} (a : Rule X F N V A) → Sound a
  sound_of a = sound heads inner by_name sound_name a

  pub sound_flaw : {A : Type 0} (e : Rule X F N V A) → SoundFlaw e
  sound_flaw (empty x) flaw u e = not_given x u flaw e
  sound_flaw {A} (one class f) flaw [] e = not_stuck {X = X} {A = A} 0 flaw e
  sound_flaw {A} (one class f) flaw (t ∷ ts) e =
      by_case (chosen (has class t) (given (f t) ts) (Err (stuck (suc (length ts)))) (stopped flaw) e)
    where
      by_case : ((has class t ≡ true) × (given (f t) ts ≡ stopped flaw))
          ⊎ ((has class t ≡ false) × (Err (stuck (suc (length ts))) ≡ stopped {X = X} {A = A} flaw)) → ⊥
      by_case (inl h) = not_given (f t) ts flaw h.1
      by_case (inr h) = not_stuck {X = X} {A = A} (suc (length ts)) flaw h.1
  sound_flaw {A} (unless class x) flaw u e =
      by_case (chosen (next class u) (Err (stuck (length u))) (given x u) (stopped flaw) e)
    where
      by_case : ((next class u ≡ true) × (Err (stuck (length u)) ≡ stopped {X = X} {A = A} flaw))
          ⊎ ((next class u ≡ false) × (given x u ≡ stopped flaw)) → ⊥
      by_case (inl h) = not_stuck {X = X} {A = A} (length u) flaw h.1
      by_case (inr h) = not_given x u flaw h.1
  sound_flaw (both {A} {B} {C} f a b) flaw u e =
      by_first (bind_err (read heads by_name a u) second (flawed flaw.0 flaw.1) e) (sound_flaw a) (sound_flaw b)
    where
      second : A × List (Token X) → Answer X F C
      second x = read heads by_name b x.1 >>= λ y. Ok (f x.0 y.0, y.1)

      by_second : (x : A) (w : List (Token X)) → read heads by_name a u ≡ Ok (x, w)
          → (read heads by_name b w ≡ stopped flaw)
          ⊎ ((y : B × List (Token X)) × (read heads by_name b w ≡ Ok y) × (given (f x y.0) y.1 ≡ stopped flaw))
          → SoundFlaw b → FlawIn inner deep (both f a b) flaw u
      by_second x w was (inl h) behind = inr (Ok x, w, sound_of a x u w was, behind flaw w h)
      by_second x w was (inr h) behind = absurd (not_given (f x h.0.0) h.0.1 flaw h.2)

      by_first : (read heads by_name a u ≡ stopped flaw)
          ⊎ ((x : A × List (Token X)) × (read heads by_name a u ≡ Ok x) × (second x ≡ stopped flaw))
          → SoundFlaw a → SoundFlaw b → FlawIn inner deep (both f a b) flaw u
      by_first (inl h) here behind = inl (here flaw u h)
      by_first (inr h) here behind =
          by_second h.0.0 h.0.1 h.1
          (bind_err (read heads by_name b h.0.1) (λ y. Ok (f h.0.0 y.0, y.1)) (flawed flaw.0 flaw.1) h.2) behind
  sound_flaw {A} (either a b) flaw u e =
      by_case (chosen (next (first heads a) u) (read heads by_name a u) (read heads by_name b u) (stopped flaw) e)
      (sound_flaw a) (sound_flaw b)
    where
      by_case : ((next (first heads a) u ≡ true) × (read heads by_name a u ≡ stopped flaw))
          ⊎ ((next (first heads a) u ≡ false) × (read heads by_name b u ≡ stopped flaw)) → SoundFlaw a → SoundFlaw b
          → FlawIn inner deep (either a b) flaw u
      by_case (inl h) left right = inl (left flaw u h.1)
      by_case (inr h) left right = inr (right flaw u h.1)
  sound_flaw (many {A} {B} f a) flaw u e =
      by_case (bind_err (series_at (first heads a) (read heads by_name a) (length u) u) (λ xs. Ok (f xs.0, xs.1))
      (flawed flaw.0 flaw.1) e) (sound_flaw_series a (sound_of a) (sound_flaw a) (length u) flaw u)
    where
      Listed : Answer X F (List A) → Type 0
      Listed r = series_at (first heads a) (read heads by_name a) (length u) u ≡ r

      by_case : Listed (stopped flaw)
          ⊎ ((xs : List A × List (Token X)) × Listed (Ok xs) × (given (f xs.0) xs.1 ≡ stopped flaw))
          → (Listed (stopped flaw) → FlawBehind a flaw u) → FlawBehind a flaw u
      by_case (inl h) behind = behind h
      by_case (inr h) behind = absurd (not_given (f h.0.0) h.0.1 flaw h.2)
  sound_flaw (checked {A} {B} f a) flaw u e =
      by_case (bind_err (read heads by_name a u) (λ x. check_value (place u) x.1 (f x.0)) (flawed flaw.0 flaw.1) e)
      (sound_flaw a)
    where
      by_value : (x : A) (w : List (Token X)) → read heads by_name a u ≡ Ok (x, w)
          → (reason : F) × (f x ≡ Err reason) × (flaw ≡ (refused reason, place u))
          → FlawIn inner deep (checked f a) flaw u
      by_value x w was (reason, is, same) = inr (x, reason, w, sound_of a x u w was, is, same)

      by_case : (read heads by_name a u ≡ stopped flaw)
          ⊎ ((x : A × List (Token X)) × (read heads by_name a u ≡ Ok x)
          × (check_value (place u) x.1 (f x.0) ≡ stopped flaw))
          → SoundFlaw a → FlawIn inner deep (checked f a) flaw u
      by_case (inl h) here = inl (here flaw u h)
      by_case (inr h) here = by_value h.0.0 h.0.1 h.1 (passes_err (place u) h.0.1 (f h.0.0) flaw h.2)
  sound_flaw (deeper {A} n f) flaw u e =
      by_case (bind_err (by_name n u) (λ x. Ok (f x.0, x.1)) (flawed flaw.0 flaw.1) e)
    where
      by_case : (by_name n u ≡ stopped flaw)
          ⊎ ((x : V × List (Token X)) × (by_name n u ≡ Ok x) × (given (f x.0) x.1 ≡ stopped flaw)) → deep n flaw u
      by_case (inl h) = flaw_name n flaw u h
      by_case (inr h) = absurd (not_given (f h.0.0) h.0.1 flaw h.2)

-- ---- the parser reports a flaw of the text, or another one before it

-- the first flaw is before the other one
pub record Behind {X : Type 0} (u : List (Token X)) (here there : ℕ) : Type 0 where
  pub front : List (Token X)
  pub rest : List (Token X)
  pub parts : u ≡ front ++ rest
  pub here_in : PlaceIn here front
  pub there_in : PlaceIn there rest

-- the parser stops at this flaw, or at one before it
abbrev pub StopsAt : {X F A : Type 0} → Answer X F A → Flaw F × ℕ → List (Token X) → Type 0
StopsAt {X} {F} answer flaw u =
    (first : Flaw F × ℕ) × (answer ≡ stopped first) × ((first ≡ flaw) ⊎ Behind u first.1 flaw.1)

-- the same after other tokens
pub later : {X F : Type 0} (here there : Flaw F × ℕ) (u front m : List (Token X)) → u ≡ front ++ m
    → (here ≡ there) ⊎ Behind m here.1 there.1 → (here ≡ there) ⊎ Behind u here.1 there.1
later here there u front m parts (inl same) = inl same
later {X} here there u front m parts (inr b) = inr (record {
  front = front ++ b.front;
  rest = b.rest;
  parts = parts ∙ ap (λ (l : List (Token X)). front ++ l) b.parts ∙ sym (append_assoc front b.front b.rest);
  here_in = place_behind here.1 front b.front b.here_in;
  there_in = b.there_in;
})

none_next : {X : Type 0} (c : Class) (w : List (Token X)) → none c ≡ true → next c w ≡ false
none_next [] w e = next_none w
none_next (k ∷ ks) w e = absurd cc

module _ {X F N V : Type 0} (heads : N → Class) (inner : N → Span X F V) (deep : N → FlawsOf X F) (ends : N → Class)
    (starts : (n : N) (r : Outcome F V) (u w : List (Token X)) → inner n r u w
    → (length w < length u) × (next (heads n) u ≡ true))
    (span_name : (n : N) (r : Outcome F V) (u w : List (Token X)) → inner n r u w → Spans r u w)
    (flaw_starts : (n : N) (flaw : Flaw F × ℕ) (u : List (Token X)) → deep n flaw u → next (heads n) u ≡ true)
    (flaw_name : (n : N) (flaw : Flaw F × ℕ) (u : List (Token X)) → deep n flaw u → PlaceIn flaw.1 u) where
  begins_of : {A : Type 0} (a : Rule X F N V A) (r : Outcome F A) (u w : List (Token X)) → Spelled inner a r u w
      → Begins (first heads a) (nullable a) u w
  begins_of a r u w s = begins heads inner starts a r u w s

  -- its first token is one of the rule's first tokens
  flaw_begins : {A : Type 0} (e : Rule X F N V A) → Fits heads ends e → (flaw : Flaw F × ℕ) (u : List (Token X))
      → FlawIn inner deep e flaw u → next (first heads e) u ≡ true
  flaw_begins (empty x) fit flaw u s = absurd s
  flaw_begins (one class f) fit flaw u s = absurd s
  flaw_begins (unless class x) fit flaw u s = absurd s
  flaw_begins (both {A} {B} f a b) fit flaw u (inl s) =
      in_left (first heads a) (cond (nullable a) (first heads b) []) u
      (flaw_begins a (both_fits heads ends a b fit).0 flaw u s)
  flaw_begins (both {A} {B} f a b) fit flaw u (inr (p, m, s, behind)) =
      by_case (begins_of a p u m s) (flaw_begins b (both_fits heads ends a b fit).1 flaw m behind)
    where
      by_case : Begins (first heads a) (nullable a) u m → next (first heads b) m ≡ true
          → next (first heads a ++ cond (nullable a) (first heads b) []) u ≡ true
      by_case (inl h) is = in_left (first heads a) (cond (nullable a) (first heads b) []) u h.1
      by_case (inr h) is =
          in_right (first heads a) (cond (nullable a) (first heads b) []) u
          (ap (λ (c : Class). next c u) (cond-true (nullable a) (first heads b) [] h.0) ∙ ap (next (first heads b)) h.1
          ∙ is)
  flaw_begins (either a b) fit flaw u (inl s) =
      in_left (first heads a) (first heads b) u (flaw_begins a (either_fits heads ends a b fit).0 flaw u s)
  flaw_begins (either a b) fit flaw u (inr s) =
      in_right (first heads a) (first heads b) u (flaw_begins b (either_fits heads ends a b fit).1 flaw u s)
  flaw_begins (many {A} f a) fit flaw u (xs, m, s, behind) =
      by_case (begins_series heads inner starts (Spelled inner a) (first heads a) (nullable a) (begins_of a) xs u m s)
      (flaw_begins a (many_fits heads ends a fit).0 flaw m behind)
    where
      by_case : Begins (first heads a) true u m → next (first heads a) m ≡ true → next (first heads a) u ≡ true
      by_case (inl h) is = h.1
      by_case (inr h) is = ap (next (first heads a)) h.1 ∙ is
  flaw_begins (checked f a) fit flaw u (inl s) = flaw_begins a (checked_fits heads ends a fit).0 flaw u s
  flaw_begins (checked f a) fit flaw u (inr (x, reason, w, s, is, same)) =
      (takes_some (first heads a) (nullable a) u w (checked_fits heads ends a fit).1 (begins_of a (Ok x) u w s)).1
  flaw_begins (deeper n f) fit flaw u s = flaw_starts n flaw u s

  spans_of : {A : Type 0} (a : Rule X F N V A) → Fits heads ends a → (r : Outcome F A) (u w : List (Token X))
      → Spelled inner a r u w → Spans r u w
  spans_of a fit r u w s = spans heads inner ends starts span_name a fit r u w s

  stands_of : {A : Type 0} (a : Rule X F N V A) → Fits heads ends a → (flaw : Flaw F × ℕ) (u : List (Token X))
      → FlawIn inner deep a flaw u → PlaceIn flaw.1 u
  stands_of a fit flaw u s = flaw_stands heads inner ends starts span_name deep flaw_name a fit flaw u s

  -- a flaw of a text of the rule is before what follows that text
  spelled_before : {A : Type 0} (u m : List (Token X)) (flaw : Flaw F × ℕ) (other : ℕ)
      → Spans {A = A} (Err flaw) u m → PlaceIn other m → Behind u flaw.1 other
  spelled_before u m flaw other s p =
      record { front = s.front; rest = m; parts = s.parts; here_in = s.stands; there_in = p }

  module _ (by_name : N → Reader X F V)
      (known : (n : N) (r : Outcome F V) (u w : List (Token X)) → inner n r u w → next (ends n) w ≡ false
      → by_name n u ≡ answer w r)
      (flaw_known : (n : N) (flaw : Flaw F × ℕ) (u : List (Token X)) → deep n flaw u
      → StopsAt (by_name n u) flaw u) where
    abbrev Completes : {A : Type 0} → Rule X F N V A → Type 0
    Completes a = (flaw : Flaw F × ℕ) (u : List (Token X)) → FlawIn inner deep a flaw u
        → StopsAt (read heads by_name a u) flaw u

    -- a place before another one
    before_next : {A : Type 0} (a : Rule X F N V A) → Fits heads ends a → (c : Class)
        → apart (Last heads ends a) c ≡ true → (p : Outcome F A) (u m : List (Token X)) → Spelled inner a p u m
        → next c m ≡ true
        → read heads by_name a u ≡ answer m p
    before_next a fit c test p u m s is =
        complete heads inner starts ends by_name known a fit p u m s
        (apart_back (Last heads ends a) c m test is)

    -- a function of a value stops where reading the value stops
    stops_then : {A B : Type 0} (r : Answer X F A) (f : A × List (Token X) → Answer X F B) (flaw : Flaw F × ℕ)
        (u : List (Token X)) → StopsAt r flaw u → StopsAt (r >>= f) flaw u
    stops_then {A} r f flaw u (first, is, comes) = (first, ap (λ (a : Answer X F A). a >>= f) is, comes)

    flaw_series : {A : Type 0} (a : Rule X F N V A) → Fits heads ends a → nullable a ≡ false
        → apart (Last heads ends a) (first heads a) ≡ true → Completes a → (xs : List (Outcome F A))
        (m : List (Token X)) (flaw : Flaw F × ℕ) → FlawIn inner deep a flaw m → (u : List (Token X))
        → Series (Spelled inner a) xs u m → (n : ℕ) → length u ≤ n
        → StopsAt (series_at (first heads a) (read heads by_name a) n u) flaw u
    flaw_series {A} a fit some test each [] m flaw here u s n h = go n h
      where
        is_next : next (first heads a) u ≡ true
        is_next = ap (next (first heads a)) s ∙ flaw_begins a fit flaw m here

        is_flawed : StopsAt (read heads by_name a u) flaw u
        is_flawed = subst (λ (l : List (Token X)). StopsAt (read heads by_name a l) flaw l) (sym s) (each flaw m here)

        others : ℕ → A × List (Token X) → Answer X F (List A)
        others n x = series_at (first heads a) (read heads by_name a) n x.1 >>= λ xs. Ok (x.0 ∷ xs.0, xs.1)

        no_tokens : (u : List (Token X)) → length u ≤ 0 → next (first heads a) u ≡ true → ⊥
        no_tokens [] h is = cc
        no_tokens (t ∷ ts) h is = omega arith

        go : (n : ℕ) → length u ≤ n → StopsAt (series_at (first heads a) (read heads by_name a) n u) flaw u
        go zero h = absurd (no_tokens u h is_next)
        go (suc k) h =
            let t = stops_then (read heads by_name a u) (others k) flaw u is_flawed in (
              t.0,
              cond-true (next (first heads a) u) (read heads by_name a u >>= others k) (Ok ([], u)) is_next ∙ t.1,
              t.2,
            )
    flaw_series {A} a fit some test each (x ∷ xs) m flaw here u (v, p, s) n h =
        go n h (flaw_series a fit some test each xs m flaw here v s)
      where
        begun : (length v < length u) × (next (first heads a) u ≡ true)
        begun = takes_some (first heads a) (nullable a) u v some (begins_of a x u v p)

        goes_on : Begins (first heads a) true v m → next (first heads a) v ≡ true
        goes_on (inl i) = i.1
        goes_on (inr i) = ap (next (first heads a)) i.1 ∙ flaw_begins a fit flaw m here

        is_next : next (first heads a) v ≡ true
        is_next =
            goes_on (begins_series heads inner starts (Spelled inner a) (first heads a) (nullable a) (begins_of a) xs v
            m s)

        item_read : read heads by_name a u ≡ answer v x
        item_read = before_next a fit (first heads a) test x u v p is_next

        item_span : Spans x u v
        item_span = spans_of a fit x u v p

        others : ℕ → A × List (Token X) → Answer X F (List A)
        others n x = series_at (first heads a) (read heads by_name a) n x.1 >>= λ xs. Ok (x.0 ∷ xs.0, xs.1)

        flaw_behind : PlaceIn flaw.1 v
        flaw_behind =
            behind_span heads inner ends starts span_name (all xs) flaw.1 v m
            (spans_series heads inner ends starts span_name (Spelled inner a) (spans_of a fit) xs v m s)
            (stands_of a fit flaw m here)

        Rest : Type 0
        Rest = (k : ℕ) → length v ≤ k → StopsAt (series_at (first heads a) (read heads by_name a) k v) flaw v

        by_item : (k : ℕ) → length u ≤ suc k → Rest → (x : Outcome F A) → Spans x u v
            → StopsAt (answer v x >>= others k) flaw u
        by_item k h ih (Ok y) t =
            let c = stops_then (series_at (first heads a) (read heads by_name a) k v) (λ ys. Ok (y ∷ ys.0, ys.1)) flaw v
            (ih k (omega (arith, begun.0))) in
            (c.0, c.1, later c.0 flaw u t.front v t.parts c.2)
        by_item k h ih (Err other) t = (other, refl, inr (spelled_before {A = A} u v other flaw.1 t flaw_behind))

        go : (n : ℕ) → length u ≤ n → Rest → StopsAt (series_at (first heads a) (read heads by_name a) n u) flaw u
        go zero h ih = absurd (omega (arith, begun.0))
        go (suc k) h ih =
            let c = by_item k h ih x item_span in (
              c.0,
              cond-true (next (first heads a) u) (read heads by_name a u >>= others k) (Ok ([], u)) begun.1
                  ∙ ap (λ (r : Answer X F A). r >>= others k) item_read ∙ c.1,
              c.2,
            )

    pub complete_flaw : {A : Type 0} (e : Rule X F N V A) → Fits heads ends e → Completes e
    complete_flaw (empty x) fit flaw u s = absurd s
    complete_flaw (one class f) fit flaw u s = absurd s
    complete_flaw (unless class x) fit flaw u s = absurd s
    complete_flaw (both {A} {B} {C} f a b) fit flaw u (inl s) =
        stops_then (read heads by_name a u) (λ x. read heads by_name b x.1 >>= λ y. Ok (f x.0 y.0, y.1)) flaw u
        (complete_flaw a (both_fits heads ends a b fit).0 flaw u s)
    complete_flaw (both {A} {B} {C} f a b) fit flaw u (inr (p, m, s, behind)) =
        let k = both_fits heads ends a b fit in
        let here = before_next a k.0 (first heads b) k.2 p u m s (flaw_begins b k.1 flaw m behind) in
        let stands = stands_of b k.1 flaw m behind in
        let c = by_first p (spans_of a k.0 p u m s) (complete_flaw b k.1 flaw m behind) stands in
        (c.0, ap (λ (r : Answer X F A). r >>= second) here ∙ c.1, c.2)
      where
        second : A × List (Token X) → Answer X F C
        second x = read heads by_name b x.1 >>= λ y. Ok (f x.0 y.0, y.1)

        by_first : (p : Outcome F A) → Spans p u m → StopsAt (read heads by_name b m) flaw m → PlaceIn flaw.1 m
            → StopsAt (answer m p >>= second) flaw u
        by_first (Ok x) t stops stands =
            let c = stops_then (read heads by_name b m) (λ y. Ok (f x y.0, y.1)) flaw m stops in
            (c.0, c.1, later c.0 flaw u t.front m t.parts c.2)
        by_first (Err other) t stops stands =
            (other, refl, inr (spelled_before {A = A} u m other flaw.1 t stands))
    complete_flaw (either a b) fit flaw u (inl s) =
        let k = either_fits heads ends a b fit in
        let c = complete_flaw a k.0 flaw u s in (
          c.0,
          cond-true (next (first heads a) u) (read heads by_name a u) (read heads by_name b u)
              (flaw_begins a k.0 flaw u s) ∙ c.1,
          c.2,
        )
    complete_flaw (either a b) fit flaw u (inr s) =
        let k = either_fits heads ends a b fit in
        let c = complete_flaw b k.1 flaw u s in (
          c.0,
          cond-false (next (first heads a) u) (read heads by_name a u) (read heads by_name b u)
              (apart_back (first heads a) (first heads b) u k.2 (flaw_begins b k.1 flaw u s)) ∙ c.1,
          c.2,
        )
    complete_flaw (many {A} {B} f a) fit flaw u (xs, m, s, behind) =
        let k = many_fits heads ends a fit in
        stops_then (series_at (first heads a) (read heads by_name a) (length u) u) (λ xs. Ok (f xs.0, xs.1)) flaw u
        (flaw_series a k.0 k.1 k.2 (complete_flaw a k.0) xs m flaw behind u s (length u) (omega arith))
    complete_flaw (checked {A} f a) fit flaw u (inl s) =
        stops_then (read heads by_name a u) (λ x. check_value (place u) x.1 (f x.0)) flaw u
        (complete_flaw a (checked_fits heads ends a fit).0 flaw u s)
    complete_flaw (checked {A} {B} f a) fit flaw u (inr (x, reason, w, s, is, same)) =
        let k = checked_fits heads ends a fit in
        let whole =
        complete heads inner starts ends by_name known a k.0 (Ok x) u w s
        (none_next (Last heads ends a) w k.2) in (
          flaw,
          ap (λ (r : Answer X F A). r >>= λ x. check_value (place u) x.1 (f x.0)) whole ∙ ap (check_value (place u) w) is
              ∙ ap (λ (k : Flaw F × ℕ). stopped k) (sym same),
          inl refl,
        )
    complete_flaw (deeper {A} n f) fit flaw u s =
        stops_then (by_name n u) (λ x. Ok (f x.0, x.1)) flaw u (flaw_known n flaw u s)
