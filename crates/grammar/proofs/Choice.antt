-- Choices by the next token, and repetitions.
use Rattle.std.proofs.Common.{◌≡◌, ℕ, zero, suc, ◌<◌, ◌≤◌, Bool, true, false, cond, List, [], ◌∷◌, ◌++◌, length}
use Rattle.std.proofs.Common.{Option, Ok, Err, refl, sym, ap, ◌∙◌, ◌⊎◌, inl, inr, arith}
use Rattle.std.proofs.lemmas.Bool.{cond-true, cond-false}
use Rattle.grammar.specs.Rule.{Token}
use Rattle.grammar.specs.Spelling.{Flaw}
use Rattle.grammar.specs.Rule.{Class, next, has}
use Rattle.grammar.specs.Spelling.{SameHead, Outcome, all, Span, Series, ◌>>=◌}
use Rattle.grammar.specs.Reading.{Reader, Answer, series_at}
use Rattle.grammar.proofs.Sets.{out_left, out_right, out_of_both}
use Rattle.grammar.proofs.Sound.{bind_ok, chosen, taken, rest_is}
use Rattle.grammar.proofs.Good.{same_behind, same_next, Near, Begun, GoodAt, viable_as, good_as, in_turn, InTurn}
use Rattle.grammar.proofs.Good.{good_both}

abbrev pub choice : {X F A : Type 0} → Class → Reader X F A → Reader X F A → Reader X F A
choice k r s u = cond (next k u) (r u) (s u)

abbrev pub Choice : {X F A : Type 0} → Span X F A → Span X F A → Span X F A
Choice P Q o u w = P o u w ⊎ Q o u w

-- the next token stays the same if the prefix is not empty, or if it is empty and the same token follows
module _ {X F A : Type 0} (k : Class) (r s : Reader X F A) (P Q : Span X F A) (c d : Class) (can : Bool)
    (some : (u : List (Token X)) (x : A) (w : List (Token X)) → r u ≡ Ok (x, w) → length w < length u)
    (null : (u : List (Token X)) (x : A) → s u ≡ Ok (x, u) → can ≡ true) where
  abbrev Ends : Class
  Ends = c ++ (d ++ cond can k [])

  in_left : (w other : List (Token X)) → Near Ends w other → Near c w other
  in_left w other (inl h) = inl h
  in_left w other (inr h) = inr (out_left c (d ++ cond can k []) other h)

  in_right : (w other : List (Token X)) → Near Ends w other → Near d w other
  in_right w other (inl h) = inl h
  in_right w other (inr h) = inr (out_left d (cond can k []) other (out_right c (d ++ cond can k []) other h))

  -- the first token that was read, or the next token if none was read
  decides_some : (text w other : List (Token X)) (u : List (Token X)) → u ≡ text ++ w → length w < length u
      → next k (text ++ other) ≡ next k u
  decides_some [] w other u e less = absurd (omega (arith, less, ap length e))
  decides_some (t ∷ ts) w other u e less = ap (next k) (sym e)

  decides_none : (text w other : List (Token X)) (u : List (Token X)) → u ≡ text ++ w → (text ≡ [] → can ≡ true)
      → next k u ≡ false → Near Ends w other → next k (text ++ other) ≡ false
  decides_none (t ∷ ts) w other u e is no-k near = ap (next k) (sym e) ∙ no-k
  decides_none [] w other u e is no-k (inl h) = sym (same_next k w other h) ∙ ap (next k) (sym e) ∙ no-k
  decides_none [] w other u e is no-k (inr h) =
      ap (λ (l : Class). next l other) (sym (cond-true can k [] (is refl)))
      ∙ out_right d (cond can k []) other (out_right c (d ++ cond can k []) other h)

  decides_same : (text left other u : List (Token X)) → u ≡ text ++ left → SameHead left other
      → next k (text ++ other) ≡ next k u
  decides_same text left other u e same = sym (ap (next k) e
      ∙ same_next k (text ++ left) (text ++ other) (same_behind text left other same))

  begun_left : (u text : List (Token X)) (flaw : Option (Flaw F × ℕ)) → Begun r P c u flaw text
      → Begun (choice k r s) (Choice P Q) Ends u flaw text
  begun_left u text flaw h = record {
    head = h.head;
    tail = h.tail;
    some = h.some;
    rest = h.rest;
    spelled =
        λ w clear. let o = h.spelled w (out_left c (d ++ cond can k []) w clear) in (o.0, o.1, inl o.2);
  }

  begun_right : (u text : List (Token X)) (flaw : Option (Flaw F × ℕ)) → Begun s Q d u flaw text
      → Begun (choice k r s) (Choice P Q) Ends u flaw text
  begun_right u text flaw h = record {
    head = h.head;
    tail = h.tail;
    some = h.some;
    rest = h.rest;
    spelled =
        λ w clear. let o = h.spelled w (out_left d (cond can k []) w (out_right c (d ++ cond can k []) w clear)) in
        (o.0, o.1, inr o.2);
  }

  pub good_choice : (u : List (Token X)) → (next k u ≡ true → GoodAt r P c u (r u))
      → (next k u ≡ false → GoodAt s Q d u (s u)) → GoodAt (choice k r s) (Choice P Q) Ends u (choice k r s u)
  good_choice u left right = by_test (next k u) refl left right
    where
      by_left : (a : Answer X F A) → r u ≡ a → next k u ≡ true → GoodAt r P c u a
          → GoodAt (choice k r s) (Choice P Q) Ends u a
      by_left (Ok x) e is-k g = record {
        text = g.text;
        parts = g.parts;
        again = λ other near. cond-true (next k (g.text ++ other)) (r (g.text ++ other)) (s (g.text ++ other))
            (decides_some g.text x.1 other u g.parts (some u x.0 x.1 e) ∙ is-k)
            ∙ g.again other (in_left x.1 other near);
      }
      by_left (Err stop) e is-k g = record {
        text = g.text;
        left = g.left;
        parts = g.parts;
        again = λ other same. cond-true (next k (g.text ++ other)) (r (g.text ++ other)) (s (g.text ++ other))
            (decides_same g.text g.left other u g.parts same ∙ is-k) ∙ g.again other same;
        viable = viable_as r P c u (choice k r s) (Choice P Q) Ends u g.text g.text inl (begun_left u g.text)
            (λ at p. p) stop g.viable;
      }

      by_right : (a : Answer X F A) → s u ≡ a → next k u ≡ false → GoodAt s Q d u a
          → GoodAt (choice k r s) (Choice P Q) Ends u a
      by_right (Ok x) e not-k g = record {
        text = g.text;
        parts = g.parts;
        again = λ other near. cond-false (next k (g.text ++ other)) (r (g.text ++ other)) (s (g.text ++ other))
            (decides_none g.text x.1 other u g.parts
            (λ (none : g.text ≡ []). null u x.0 (e ∙ ap (λ (l : List (Token X)). Ok (x.0, l))
            (sym (g.parts ∙ ap (λ (l : List (Token X)). l ++ x.1) none)))) not-k near)
            ∙ g.again other (in_right x.1 other near);
      }
      by_right (Err stop) e not-k g = record {
        text = g.text;
        left = g.left;
        parts = g.parts;
        again = λ other same. cond-false (next k (g.text ++ other)) (r (g.text ++ other)) (s (g.text ++ other))
            (decides_same g.text g.left other u g.parts same ∙ not-k) ∙ g.again other same;
        viable = viable_as s Q d u (choice k r s) (Choice P Q) Ends u g.text g.text inl (begun_right u g.text)
            (λ at p. p) stop g.viable;
      }

      by_test : (b : Bool) → next k u ≡ b → (next k u ≡ true → GoodAt r P c u (r u))
          → (next k u ≡ false → GoodAt s Q d u (s u)) → GoodAt (choice k r s) (Choice P Q) Ends u (cond b (r u) (s u))
      by_test true e left right = by_left (r u) refl e (left e)
      by_test false e left right = by_right (s u) refl e (right e)

-- ---- repetitions

abbrev pub all_at : {X F A : Type 0} → Class → Reader X F A → Reader X F (List A)
all_at k r u = series_at k r (length u) u

abbrev pub nothing : {X F A : Type 0} → Reader X F (List A)
nothing u = Ok ([], u)

abbrev pub put : {A : Type 0} → A → List A → List A
put x xs = x ∷ xs

abbrev pub Serial : {X F A : Type 0} → Span X F A → Span X F (List A)
Serial {X} {F} {A} P o u w = (xs : List (Outcome F A)) × Series P xs u w × (o ≡ all xs)

abbrev Nothing : {X F A : Type 0} → Span X F (List A)
Nothing o u w = (o ≡ Ok []) × (u ≡ w)

serial_of : {X F A : Type 0} (P : Span X F A) (o : Outcome F (List A)) (u w : List (Token X))
    → Choice (InTurn put P (Serial P)) Nothing o u w → Serial P o u w
serial_of {X} {F} P o u w (inl (p, q, m, first, (xs, rest, is), e)) =
    (p ∷ xs, (m, first, rest), e ∙ ap (λ (q : Outcome F (List _)). p >>= λ y. q >>= λ ys. Ok (y ∷ ys)) is)
serial_of P o u w (inr h) = ([], h.1, h.0)

narrow : {X : Type 0} → (k c : Class) (w : List (Token X)) → next (k ++ c) w ≡ false
    → next (((k ++ c) ++ c) ++ ([] ++ k)) w ≡ false
narrow k c w h = out_of_both ((k ++ c) ++ c) ([] ++ k) w (out_of_both (k ++ c) c w h (out_right k c w h))
    (out_left k c w h)

good_nothing : {X F A : Type 0} (u : List (Token X)) → GoodAt (nothing {F = F} {A = A}) Nothing [] u (nothing u)
good_nothing u = record { text = []; parts = refl; again = λ other near. refl }

module _ {X F A : Type 0} (k : Class) (r : Reader X F A)
    (some : (u : List (Token X)) (x : A) (w : List (Token X)) → r u ≡ Ok (x, w) → length w < length u) where
  abbrev one_more : Reader X F (List A)
  one_more = in_turn put r (all_at k r)

  abbrev bound : ℕ → A × List (Token X) → Answer X F (List A)
  bound n x = series_at k r n x.1 >>= λ xs. Ok (x.0 ∷ xs.0, xs.1)

  same_turn : (n m : ℕ) (u : List (Token X)) → ((w : List (Token X)) → length w < length u
      → series_at k r n w ≡ series_at k r m w) → (a : Answer X F A) → r u ≡ a → (a >>= bound n) ≡ (a >>= bound m)
  same_turn n m u same (Err stop) e = refl
  same_turn n m u same (Ok x) e = ap (λ (a : Answer X F (List A)). a >>= λ xs. Ok (x.0 ∷ xs.0, xs.1))
      (same x.1 (some u x.0 x.1 e))

  empty_at : (n : ℕ) → series_at k r n [] ≡ Ok ([], [])
  empty_at zero = refl
  empty_at (suc n) = refl

  pub enough : (n m : ℕ) (u : List (Token X)) → length u ≤ n → length u ≤ m → series_at k r n u ≡ series_at k r m u
  enough n m [] h i = empty_at n ∙ sym (empty_at m)
  enough zero m (t ∷ ts) h i = absurd (omega arith)
  enough (suc n) zero (t ∷ ts) h i = absurd (omega arith)
  enough (suc n) (suc m) (t ∷ ts) h i = ap (λ (a : Answer X F (List A)). cond (has k t) a (Ok ([], t ∷ ts)))
      (same_turn n m (t ∷ ts) (λ w less. enough n m w (omega arith) (omega arith)) (r (t ∷ ts)) refl)

  pub unrolled : (u : List (Token X)) → all_at k r u ≡ choice k one_more nothing u
  unrolled [] = refl
  unrolled (t ∷ ts) = ap (λ (a : Answer X F (List A)). cond (has k t) a (Ok ([], t ∷ ts))) (turn (r (t ∷ ts)) refl)
    where
      turn : (a : Answer X F A) → r (t ∷ ts) ≡ a → (a >>= bound (length ts)) ≡
          (a >>= λ x. all_at k r x.1 >>= λ xs. Ok (x.0 ∷ xs.0, xs.1))
      turn (Err stop) e = refl
      turn (Ok x) e = ap (λ (a : Answer X F (List A)). a >>= λ xs. Ok (x.0 ∷ xs.0, xs.1))
          (enough (length ts) (length x.1) x.1 (omega (arith, some (t ∷ ts) x.0 x.1 e)) (omega arith))

  -- what is read is a before
  series_shorter : (n : ℕ) (u : List (Token X)) → length u ≤ n → (xs : List A) (w : List (Token X))
      → all_at k r u ≡ Ok (xs, w) → length w ≤ length u
  series_shorter zero [] h xs w e = omega (arith, ap length (rest_is [] xs [] w e))
  series_shorter (suc n) [] h xs w e = omega (arith, ap length (rest_is [] xs [] w e))
  series_shorter zero (t ∷ ts) h xs w e = absurd (omega arith)
  series_shorter (suc n) (t ∷ ts) h xs w e =
      by_case (chosen (has k t) (one_more (t ∷ ts)) (nothing (t ∷ ts)) (Ok (xs, w)) (sym (unrolled (t ∷ ts)) ∙ e))
      (series_shorter n)
    where
      by_case : ((has k t ≡ true) × (one_more (t ∷ ts) ≡ Ok (xs, w)))
          ⊎ ((has k t ≡ false) × (taken {F = F} [] (t ∷ ts) ≡ taken xs w))
          → ((u : List (Token X)) → length u ≤ n → (xs : List A) (w : List (Token X)) → all_at k r u ≡ Ok (xs, w)
          → length w ≤ length u) → length w ≤ length (t ∷ ts)
      by_case (inr g) ih = omega (arith, ap length (rest_is [] xs (t ∷ ts) w g.1))
      by_case (inl g) ih =
          let p = bind_ok (r (t ∷ ts)) (λ x. all_at k r x.1 >>= λ ys. Ok (x.0 ∷ ys.0, ys.1)) (xs, w) g.1 in
          let q = bind_ok (all_at k r p.0.1) (λ ys. Ok (p.0.0 ∷ ys.0, ys.1)) (xs, w) p.2 in
          let less = some (t ∷ ts) p.0.0 p.0.1 p.1 in
          omega (
            arith,
            less,
            ih p.0.1 (omega (arith, less)) q.0.0 q.0.1 q.1,
            ap length (rest_is (p.0.0 ∷ q.0.0) xs q.0.1 w q.2),
          )

  some_turn : (u : List (Token X)) (xs : List A) (w : List (Token X)) → one_more u ≡ Ok (xs, w) → length w < length u
  some_turn u xs w e =
      let p = bind_ok (r u) (λ x. all_at k r x.1 >>= λ ys. Ok (x.0 ∷ ys.0, ys.1)) (xs, w) e in
      let q = bind_ok (all_at k r p.0.1) (λ ys. Ok (p.0.0 ∷ ys.0, ys.1)) (xs, w) p.2 in
      omega (
        arith,
        some u p.0.0 p.0.1 p.1,
        series_shorter (length p.0.1) p.0.1 (omega arith) q.0.0 q.0.1 q.1,
        ap length (rest_is (p.0.0 ∷ q.0.0) xs q.0.1 w q.2),
      )

  module _ (P : Span X F A) (c : Class) (sound : (u : List (Token X)) (x : A) (w : List (Token X)) → r u ≡ Ok (x, w)
      → P (Ok x) u w) (good : (u : List (Token X)) → GoodAt r P c u (r u)) where
    one_good : (u : List (Token X)) → ((m : List (Token X)) → length m < length u
        → GoodAt (all_at k r) (Serial P) (k ++ c) m (all_at k r m))
        → GoodAt one_more (InTurn put P (Serial P)) ((k ++ c) ++ c) u (one_more u)
    one_good u shorter = good_both put r P c (all_at k r) (Serial P) (k ++ c) true [] sound (λ u y e. refl)
        (λ w clear. (Ok [], ([], refl, refl))) (λ w clear. out_right (k ++ c) c w clear) u (good u)
        (λ x m e. shorter m (some u x m e))

    step : (u : List (Token X)) → ((m : List (Token X)) → length m < length u
        → GoodAt (all_at k r) (Serial P) (k ++ c) m (all_at k r m))
        → GoodAt (all_at k r) (Serial P) (k ++ c) u (all_at k r u)
    step u shorter =
        good_as (choice k one_more nothing) (all_at k r) (Choice (InTurn put P (Serial P)) Nothing) (Serial P)
        (((k ++ c) ++ c) ++ ([] ++ k)) (k ++ c) unrolled (serial_of P) (narrow k c) u
        (good_choice k one_more nothing (InTurn put P (Serial P)) Nothing ((k ++ c) ++ c) [] true some_turn
        (λ u x e. refl) u (λ e. one_good u shorter) (λ e. good_nothing u))

    good_within : (n : ℕ) (u : List (Token X)) → length u ≤ n → GoodAt (all_at k r) (Serial P) (k ++ c) u (all_at k r u)
    good_within zero u h = step u (λ m less. absurd (omega arith))
    good_within (suc n) u h = step u (λ m less. good_within n m (omega arith))

    pub good_series : (u : List (Token X)) → GoodAt (all_at k r) (Serial P) (k ++ c) u (all_at k r u)
    good_series u = good_within (length u) u (omega arith)
