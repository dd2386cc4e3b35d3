-- What the parser of each rule that passes the tests satisfies.
use Rattle.std.proofs.Common.{◌≡◌, suc, ◌<◌, Bool, true, false, not, ◌&&◌, cond, List, [], ◌∷◌, ◌++◌, length, Ok, Err}
use Rattle.std.proofs.Common.{refl, sym, ap, ◌∙◌, subst, ◌⊎◌, inl, inr, arith, append_assoc}
use Rattle.std.proofs.lemmas.Bool.{cond-true, cond-false, and_parts}
use Rattle.grammar.specs.Rule.{Token}
use Rattle.grammar.specs.Rule.{Class, next, has, Rule, empty, one, unless, both, either, many, checked, deeper}
use Rattle.grammar.specs.Spelling.{SameHead, Outcome, outcome_at, place, Span, Spelled, ◌>>=◌}
use Rattle.grammar.specs.Reading.{nullable, first, stuck, Reader, one_at, read}
use Rattle.grammar.proofs.Sets.{out_left, out_right, apart, not_true}
use Rattle.grammar.proofs.Table.{more, none, fits, least, plain, solid}
use Rattle.grammar.proofs.Complete.{Begins, begins, takes_some}
use Rattle.grammar.proofs.Sound.{sound, sound_series}
use Rattle.grammar.proofs.Good.{same_next, Near, GoodAt, good_as, checks, Checked, good_checked, good_both}
use Rattle.grammar.proofs.Choice.{good_choice, all_at, Serial, good_series}

-- a list that is not empty does not begin with a token of the class
calm_list : {X : Type 0} → (c : Class) (l w : List (Token X)) → next c l ≡ false → (l ≡ [] → next c w ≡ false)
    → next c (l ++ w) ≡ false
calm_list c [] w e f = f refl
calm_list c (t ∷ ts) w e f = e

module _ {X F N V : Type 0} (heads : N → Class) (inner : N → Span X F V)
    (starts : (n : N) (r : Outcome F V) (u w : List (Token X)) → inner n r u w → (length w < length u)
    × (next (heads n) u ≡ true)) (sample : Class → Token X) (leasts : N → List (Token X)) (shuts : N → Class) where
  abbrev Shut : {A : Type 0} → Rule X F N V A → Class
  Shut e = more true heads shuts e

  abbrev one_rule : {A : Type 0} → Class → (Token X → A) → Rule X F N V A
  one_rule class f = one class f

  abbrev unless_rule : {A : Type 0} → Class → A → Rule X F N V A
  unless_rule class x = unless class x

  many_of : {A B : Type 0} (f : List A → B) (a : Rule X F N V A) (o : Outcome F B) (u w : List (Token X))
      → Checked (λ xs. Ok (f xs)) (Serial (Spelled inner a)) o u w → Spelled inner (many f a) o u w
  many_of {A} f a o u w (p, (xs, s, is), e) = (xs, s, e ∙ ap (λ (p : Outcome F (List A)). p >>= λ ys. Ok (f ys)) is)

  abbrev Sound : {A : Type 0} → Rule X F N V A → Type 0
  Sound e = solid sample leasts heads shuts e ≡ true

  abbrev LeastNames : Type 0
  LeastNames = (n : N) (w : List (Token X)) → next (shuts n) w ≡ false → (o : Outcome F V) × inner n o (leasts n ++ w) w

  left_plain : (a b : Bool) → ((a && b) ≡ true) ⊎ LeastNames → (a ≡ true) ⊎ LeastNames
  left_plain a b (inl h) = inl (and_parts a b h).0
  left_plain a b (inr h) = inr h

  right_plain : (a b : Bool) → ((a && b) ≡ true) ⊎ LeastNames → (b ≡ true) ⊎ LeastNames
  right_plain a b (inl h) = inl (and_parts a b h).1
  right_plain a b (inr h) = inr h

  -- the shortest text of a nullable rule is empty
  can_be : {A : Type 0} (b : Rule X F N V A) → (o : Outcome F A) → Spelled inner b o [] [] → nullable b ≡ true
  can_be b o s = by_case (begins heads inner starts b o [] [] s)
    where
      by_case : Begins {X = X} (first heads b) (nullable b) [] [] → nullable b ≡ true
      by_case (inl h) = absurd (omega (arith, h.0))
      by_case (inr h) = h.0

  calm_between : {A B : Type 0} (a : Rule X F N V A) (b : Rule X F N V B)
      → next (Shut a) (least sample leasts b) ≡ false →
      ((w : List (Token X)) → next (Shut b) w ≡ false → (o : Outcome F B)
      × Spelled inner b o (least sample leasts b ++ w) w)
      → (w : List (Token X)) → next (Shut b ++ cond (nullable b) (Shut a) []) w ≡ false
      → next (Shut a) (least sample leasts b ++ w) ≡ false
  calm_between a b test completes w clear = calm_list (Shut a) (least sample leasts b) w test
      (λ (none : least sample leasts b ≡ []).
      let s = completes [] refl in
      let can = can_be b s.0 (subst (λ (l : List (Token X)). Spelled inner b s.0 (l ++ []) []) none s.1) in
      ap (λ (k : Class). next k w) (sym (cond-true (nullable b) (Shut a) [] can))
      ∙ out_right (Shut b) (cond (nullable b) (Shut a) []) w clear)

  pub completes : {A : Type 0} (e : Rule X F N V A) → Sound e → (plain e ≡ true) ⊎ LeastNames → (w : List (Token X))
      → next (Shut e) w ≡ false → (o : Outcome F A) × Spelled inner e o (least sample leasts e ++ w) w
  completes (empty x) fit p w clear = (Ok x, (refl, refl))
  completes (one class f) fit p w clear = (Ok (f (sample class)), (sample class, refl, fit, refl))
  completes (unless class x) fit p w clear = (Ok x, (refl, refl, clear))
  completes (both f a b) fit p w clear =
      let t = and_parts (solid sample leasts heads shuts a)
      (solid sample leasts heads shuts b && not (next (Shut a) (least sample leasts b))) fit in
      let t' = and_parts (solid sample leasts heads shuts b) (not (next (Shut a) (least sample leasts b))) t.1 in
      let second = completes b t'.0 (right_plain (plain a) (plain b) p) in
      let y = second w (out_left (Shut b) (cond (nullable b) (Shut a) []) w clear) in
      let x = completes a t.0 (left_plain (plain a) (plain b) p) (least sample leasts b ++ w)
      (calm_between a b (not_true (next (Shut a) (least sample leasts b)) t'.1) second w clear) in
      let o = x.0 >>= λ x. y.0 >>= λ y. Ok (f x y) in (
        o,
        subst (λ (l : List (Token X)). Spelled inner (both f a b) o l w)
            (sym (append_assoc (least sample leasts a) (least sample leasts b) w))
            (x.0, y.0, least sample leasts b ++ w, x.1, y.1, refl),
      )
  completes (either a b) fit p w clear =
      let t = and_parts (solid sample leasts heads shuts a) (solid sample leasts heads shuts b) fit in
      let y = completes b t.1 p w (out_left (Shut b) (cond (nullable b) (first heads a) []) w
      (out_right (Shut a) (Shut b ++ cond (nullable b) (first heads a) []) w clear)) in
      (y.0, inr y.1)
  completes (many f a) fit p w clear = (Ok (f []), ([], refl, refl))
  completes (checked f a) fit p w clear = let x = completes a fit p w clear in
      ((x.0 >>= λ y. outcome_at (f y) (place (least sample leasts a ++ w))), (x.0, x.1, refl))
  completes (deeper {A} n f) fit (inl h) w clear = absurd cc
  completes (deeper n f) fit (inr names) w clear = let x =
      names n w clear in ((x.0 >>= λ y. Ok (f y)), (x.0, x.1, refl))

  -- ---- with a parser of the names

  module _ (ends : N → Class) (by_name : N → Reader X F V)
      (sound_name : (n : N) (v : V) (u w : List (Token X)) → by_name n u ≡ Ok (v, w) → inner n (Ok v) u w)
      (good_name : (n : N) (u : List (Token X)) → GoodAt (by_name n) (inner n) (shuts n) u (by_name n u))
      (names : LeastNames) where
    spelled_of : {A : Type 0} (e : Rule X F N V A) (u : List (Token X)) (x : A) (w : List (Token X))
        → read heads by_name e u ≡ Ok (x, w) → Spelled inner e (Ok x) u w
    spelled_of e u x w h = sound heads inner by_name sound_name e x u w h

    spelled_at : {A : Type 0} (e : Rule X F N V A) (x : A) (u w : List (Token X))
        → read heads by_name e u ≡ Ok (x, w) → Spelled inner e (Ok x) u w
    spelled_at e x u w h = spelled_of e u x w h

    sound_all : {A B : Type 0} (f : List A → B) (a : Rule X F N V A) (u : List (Token X)) (xs : List A)
        (w : List (Token X)) → all_at (first heads a) (read heads by_name a) u ≡ Ok (xs, w)
        → Serial (Spelled inner a) (Ok xs) u w
    sound_all f a u xs w h = let s = sound_series heads inner by_name sound_name a (spelled_at a) (length u)
        u xs w h in (s.0, s.1, sym s.2)

    some_of : {A : Type 0} (a : Rule X F N V A) → nullable a ≡ false
        → (u : List (Token X)) (x : A) (w : List (Token X)) → read heads by_name a u ≡ Ok (x, w) → length w < length u
    some_of a never u x w h = (takes_some (first heads a) (nullable a) u w never
        (begins heads inner starts a (Ok x) u w (spelled_of a u x w h))).0

    null_of : {A : Type 0} (b : Rule X F N V A) (u : List (Token X)) (x : A) → read heads by_name b u ≡ Ok (x, u)
        → nullable b ≡ true
    null_of b u x h = by_case (begins heads inner starts b (Ok x) u u (spelled_of b u x u h))
      where
        by_case : ((length u < length u) × (next (first heads b) u ≡ true)) ⊎ ((nullable b ≡ true) × (u ≡ u))
            → nullable b ≡ true
        by_case (inl i) = absurd (omega (arith, i.0))
        by_case (inr i) = i.0

    good_one : {A : Type 0} (class : Class) (f : Token X → A) (u : List (Token X))
        → GoodAt (one_at {F = F} class f) (Spelled inner (one_rule class f)) [] u (one_at class f u)
    good_one class f [] = record { text = []; left = []; parts = refl; again = again; viable = inl refl }
      where
        again : (other : List (Token X)) → SameHead [] other → one_at {F = F} class f other ≡ Err (stuck (length other))
        again [] same = refl
        again (t ∷ ts) same = absurd same
    good_one {A} class f (t ∷ ts) = by_test (has class t) refl
      where
        by_test : (b : Bool) → has class t ≡ b → GoodAt (one_at class f) (Spelled inner (one_rule class f)) []
            (t ∷ ts) (cond b (Ok (f t, ts)) (Err (stuck (suc (length ts)))))
        by_test true e = record {
          text = t ∷ [];
          parts = refl;
          again =
              λ other near. cond-true (has class t) (Ok (f t, other)) (Err (stuck (suc (length other)))) e;
        }
        by_test false e = record { text = []; left = t ∷ ts; parts = refl; again = again; viable = inl refl }
          where
            again : (other : List (Token X)) → SameHead (t ∷ ts) other
                → one_at {F = F} class f other ≡ Err (stuck (length other))
            again [] same = absurd same
            again (x ∷ xs) same = cond-false (has class x) (Ok (f x, xs)) (Err (stuck (suc (length xs))))
                (ap (has class) (sym same) ∙ e)

    good_unless : {A : Type 0} (class : Class) (x : A) (u : List (Token X))
        → GoodAt (read heads by_name (unless_rule class x)) (Spelled inner (unless_rule class x)) class u
        (read heads by_name (unless_rule class x) u)
    good_unless {A} class x u = by_test (next class u) refl
      where
        by_test : (b : Bool) → next class u ≡ b → GoodAt (read heads by_name (unless_rule class x))
            (Spelled inner (unless_rule class x)) class u (cond b (Err (stuck (length u))) (Ok (x, u)))
        by_test true e = record {
          text = [];
          left = u;
          parts = refl;
          again =
              λ other same. cond-true (next class other) (Err (stuck (length other))) (Ok (x, other))
              (sym (same_next class u other same) ∙ e);
          viable = inl refl;
        }
        by_test false e = record { text = []; parts = refl; again = again }
          where
            again : (other : List (Token X)) → Near class u other
                → read heads by_name (unless_rule class x) other ≡ Ok (x, other)
            again other (inl h) = cond-false (next class other) (Err (stuck (length other))) (Ok (x, other))
                (sym (same_next class u other h) ∙ e)
            again other (inr h) = cond-false (next class other) (Err (stuck (length other))) (Ok (x, other)) h

    pub good : {A : Type 0} (e : Rule X F N V A) → fits heads ends e ≡ true → Sound e → (u : List (Token X))
        → GoodAt (read heads by_name e) (Spelled inner e) (Shut e) u (read heads by_name e u)
    good (empty x) fit solid u = record { text = []; parts = refl; again = λ other near. refl }
    good (one class f) fit is u = good_one class f u
    good (unless class x) fit is u = good_unless class x u
    good (both f a b) fit is u =
        let t = and_parts (fits heads ends a) (fits heads ends b && apart (more false heads ends a) (first heads b))
        fit in
        let t' = and_parts (fits heads ends b) (apart (more false heads ends a) (first heads b)) t.1 in
        let s = and_parts (solid sample leasts heads shuts a)
        (solid sample leasts heads shuts b && not (next (Shut a) (least sample leasts b))) is in
        let s' = and_parts (solid sample leasts heads shuts b) (not (next (Shut a) (least sample leasts b))) s.1 in
        let second = completes b s'.0 (inr names) in
        good_both f (read heads by_name a) (Spelled inner a) (Shut a) (read heads by_name b) (Spelled inner b)
        (Shut b) (nullable b) (least sample leasts b)
        (spelled_of a) (null_of b) second (calm_between a b (not_true (next (Shut a) (least sample leasts b)) s'.1)
        second) u (good a t.0 s.0 u) (λ x m e. good b t'.0 s'.0 m)
    good (either a b) fit is u =
        let t = and_parts (fits heads ends a) (fits heads ends b &&
        (not (nullable a) && apart (first heads a) (first heads b))) fit in
        let t' = and_parts (fits heads ends b) (not (nullable a) && apart (first heads a) (first heads b)) t.1 in
        let t'' = and_parts (not (nullable a)) (apart (first heads a) (first heads b)) t'.1 in
        let s = and_parts (solid sample leasts heads shuts a) (solid sample leasts heads shuts b) is in
        good_choice (first heads a) (read heads by_name a) (read heads by_name b) (Spelled inner a) (Spelled inner b)
        (Shut a) (Shut b) (nullable b)
        (some_of a (not_true (nullable a) t''.0)) (null_of b) u (λ e. good a t.0 s.0 u) (λ e. good b t'.0 s.1 u)
    good (many {A} f a) fit is u =
        let t = and_parts (fits heads ends a) (not (nullable a) && apart (more false heads ends a) (first heads a))
        fit in
        let t' = and_parts (not (nullable a)) (apart (more false heads ends a) (first heads a)) t.1 in
        let some = some_of a (not_true (nullable a) t'.0) in
        let all = all_at (first heads a) (read heads by_name a) in
        let shut = first heads a ++ Shut a in
        good_as (checks (λ xs. Ok (f xs)) all) (read heads by_name (many f a))
        (Checked (λ xs. Ok (f xs)) (Serial (Spelled inner a))) (Spelled inner (many f a)) shut shut (λ u. refl)
        (many_of f a) (λ w clear. clear) u
        (good_checked (λ xs. Ok (f xs)) all (Serial (Spelled inner a)) shut (sound_all f a)
        (λ u x w e flawed. absurd flawed) u (good_series (first heads a) (read heads by_name a) some
        (Spelled inner a) (Shut a) (spelled_of a) (good a t.0 is) u))
    good (checked f a) fit is u =
        let t = and_parts (fits heads ends a) (not (nullable a) && none (more false heads ends a)) fit in
        let t' = and_parts (not (nullable a)) (none (more false heads ends a)) t.1 in
        good_checked f (read heads by_name a) (Spelled inner a) (Shut a) (spelled_of a)
        (λ u x w e flawed. some_of a (not_true (nullable a) t'.0) u x w e) u (good a t.0 is u)
    good (deeper n f) fit is u = good_checked (λ x. Ok (f x)) (by_name n) (inner n) (shuts n)
        (λ u x w. sound_name n x u w) (λ u x w e flawed. absurd flawed) u (good_name n u)
