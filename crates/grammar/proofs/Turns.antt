-- One iteration of a repetition, and names by their depth, for the loops and functions of a parser.
use Rattle.std.proofs.Common.{◌≡◌, ℕ, zero, suc, ◌<◌, ◌-◌, true, false, cond, List, [], ◌∷◌, ◌++◌, length, Ok, Err}
use Rattle.std.proofs.Common.{refl, sym, ap, ◌∙◌, arith, append_assoc}
use Rattle.std.proofs.lemmas.Bool.{cond-true, cond-false}
use Rattle.std.proofs.lemmas.List.{append-nil}
use Rattle.grammar.specs.Rule.{Token, next, has, Rule, Grammar}
use Rattle.grammar.specs.Spelling.{too_deep, place, ◌>>=◌}
use Rattle.grammar.specs.Reading.{first, nullable, Stop, stuck, flawed, Answer, read_name, read_at, mapped, items_at}
use Rattle.grammar.proofs.Choice.{unrolled}
use Rattle.grammar.proofs.Whole.{takes}

module _ {X F N V A : Type 0} (g : Grammar X F N V) (depth : ℕ) (e : Rule X F N V A) (some : nullable e ≡ false) where
  abbrev put_first : A → Answer X F (List A) → Answer X F (List A)
  put_first x r = r >>= λ xs. Ok (x ∷ xs.0, xs.1)

  open_up : (u : List (Token X)) → items_at g depth e u ≡ cond (next (first g.heads e) u)
      (read_at g depth e u >>= λ x. put_first x.0 (items_at g depth e x.1)) (Ok ([], u))
  open_up u = unrolled (first g.heads e) (read_at g depth e) (takes g depth e some) u

  pub no_turn : (u : List (Token X)) → next (first g.heads e) u ≡ false → items_at g depth e u ≡ Ok ([], u)
  no_turn u h = open_up u ∙ cond-false (next (first g.heads e) u)
      (read_at g depth e u >>= λ x. put_first x.0 (items_at g depth e x.1)) (Ok ([], u)) h

  pub one_turn : (u : List (Token X)) (x : A) (w : List (Token X)) → next (first g.heads e) u ≡ true
      → read_at g depth e u ≡ Ok (x, w) → items_at g depth e u ≡ put_first x (items_at g depth e w)
  one_turn u x w h is =
      open_up u ∙ cond-true (next (first g.heads e) u)
      (read_at g depth e u >>= λ x. put_first x.0 (items_at g depth e x.1)) (Ok ([], u)) h
      ∙ ap (λ (r : Answer X F A). r >>= λ x. put_first x.0 (items_at g depth e x.1)) is

  pub bad_turn : (u : List (Token X)) (stop : Stop F) → next (first g.heads e) u ≡ true
      → read_at g depth e u ≡ Err stop → items_at g depth e u ≡ Err stop
  bad_turn u stop h is =
      open_up u ∙ cond-true (next (first g.heads e) u)
      (read_at g depth e u >>= λ x. put_first x.0 (items_at g depth e x.1)) (Ok ([], u)) h
      ∙ ap (λ (r : Answer X F A). r >>= λ x. put_first x.0 (items_at g depth e x.1)) is

-- ---- lists

-- no more values, one more, and one that is incomplete
module _ {X F N V A : Type 0} (g : Grammar X F N V) (depth : ℕ) (e : Rule X F N V A) (list : List A) where
  pub list_end : (u : List (Token X)) → nullable e ≡ false → next (first g.heads e) u ≡ false
      → mapped (λ xs. list ++ xs) (items_at g depth e u) ≡ Ok (list, u)
  list_end u some h = ap (mapped (λ xs. list ++ xs)) (no_turn g depth e some u h)
      ∙ ap (λ (l : List A). Ok (l, u)) (append-nil list)

  pub list_more : (u : List (Token X)) (x : A) (w : List (Token X)) → nullable e ≡ false
      → next (first g.heads e) u ≡ true → read_at g depth e u ≡ Ok (x, w)
      → mapped (λ xs. list ++ xs) (items_at g depth e u) ≡ mapped (λ xs. (list ++ x ∷ []) ++ xs) (items_at g depth e w)
  list_more u x w some h is = ap (mapped (λ xs. list ++ xs)) (one_turn g depth e some u x w h is)
      ∙ by_case (items_at g depth e w)
    where
      by_case : (r : Answer X F (List A)) → mapped (λ xs. list ++ xs) (r >>= λ xs. Ok (x ∷ xs.0, xs.1)) ≡ mapped
          (λ xs. (list ++ x ∷ []) ++ xs) r
      by_case (Ok xs) = ap (λ (l : List A). Ok (l, xs.1)) (sym (append_assoc list (x ∷ []) xs.0))
      by_case (Err stop) = refl

  pub list_bad : (u : List (Token X)) (stop : Stop F) → nullable e ≡ false → next (first g.heads e) u ≡ true
      → read_at g depth e u ≡ Err stop → mapped (λ xs. list ++ xs) (items_at g depth e u) ≡ Err stop
  list_bad u stop some h is = ap (mapped (λ xs. list ++ xs)) (bad_turn g depth e some u stop h is)

  -- the invariant of a loop that appends each item
  pub list_step : (longer : List A) (u : List (Token X)) (x : A) (w : List (Token X)) (whole : Answer X F (List A))
      → nullable e ≡ false → next (first g.heads e) u ≡ true → read_at g depth e u ≡ Ok (x, w) → longer ≡ list ++ x ∷ []
      → mapped (λ xs. list ++ xs) (items_at g depth e u) ≡ whole
      → mapped (λ xs. longer ++ xs) (items_at g depth e w) ≡ whole
  list_step longer u x w whole some h is same before =
      ap (λ (l : List A). mapped (λ xs. l ++ xs) (items_at g depth e w)) same ∙ sym (list_more u x w some h is) ∙ before

pub ruleset list_steps = (list_end, list_more, list_bad)

-- ---- names

module _ {X F N V : Type 0} (g : Grammar X F N V) where
  pub named_none : (depth : ℕ) (n : N) (u : List (Token X)) → next (g.heads n) u ≡ false
      → read_name g.heads g.rules depth n u ≡ Err (stuck (length u))
  unfolding read_name
  named_none zero n u h = cond-false (next (g.heads n) u) (Err (flawed too_deep (place u))) (Err (stuck (length u))) h
  named_none (suc depth) n [] h = refl
  named_none (suc depth) n (t ∷ ts) h = cond-false (has (g.heads n) t) (read_at g depth (g.rules n) ts)
      (Err (stuck (suc (length ts)))) h

  pub named_deep : (depth : ℕ) (n : N) (u : List (Token X)) → depth ≡ 0 → next (g.heads n) u ≡ true
      → read_name g.heads g.rules depth n u ≡ Err (flawed too_deep (place u))
  unfolding read_name
  named_deep zero n u e h = cond-true (next (g.heads n) u) (Err (flawed too_deep (place u))) (Err (stuck (length u))) h
  named_deep (suc depth) n u e h = absurd (omega arith)

  pub named_more : (depth : ℕ) (n : N) (t : Token X) (ts : List (Token X)) → 0 < depth → has (g.heads n) t ≡ true
      → read_name g.heads g.rules depth n (t ∷ ts) ≡ read_at g (depth - 1) (g.rules n) ts
  unfolding read_name
  named_more zero n t ts e h = absurd (omega arith)
  named_more (suc depth) n t ts e h =
      let less : depth ≡ suc depth - 1 = omega arith in
      cond-true (has (g.heads n) t) (read_at g depth (g.rules n) ts) (Err (stuck (suc (length ts)))) h
      ∙ ap (λ (d : ℕ). read_at g d (g.rules n) ts) less

pub ruleset name_steps = (named_none, named_deep, named_more)
