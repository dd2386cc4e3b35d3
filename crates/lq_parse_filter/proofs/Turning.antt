-- The names by their depth, and filters that are joined one after another.
use Rattle.std.proofs.Common.{◌≡◌, ℕ, suc, ◌<◌, ◌-◌, Bool, true, false, cond, List, [], ◌∷◌, ◌++◌, length, map, Option}
use Rattle.std.proofs.Common.{Ok, Err, refl, sym, ap, ◌∙◌, append_assoc}
use Rattle.std.proofs.lemmas.List.{append-nil}
use Rattle.grammar.specs.Rule.{Token, has, next}
use Rattle.grammar.specs.Spelling.{too_deep, place, ◌>>=◌}
use Rattle.grammar.specs.Reading.{Answer, Stop, stuck, flawed, mapped, nullable, first, one_at}
use Rattle.grammar.proofs.Turns as turns
use Rattle.grammar.proofs.Whole.{takes}
use Rattle.grammar.proofs.Sound.{rest_is}
use Rattle.lq_ast.specs.Condition.{Condition, Conditions}
use Rattle.lq_ast.specs.Condition as is
use Rattle.lq_grammar.specs.declared.fault.Stop.{Stop as Halt}
use Rattle.lq_grammar.specs.declared.fault.Stop.TheVariants.{Stuck, TooDeep, BadNumber, BadTime, BadDuration}
use Rattle.lq_grammar.specs.declared.fault.Stop.TheVariants.{BadPattern, Memory}
use Rattle.lq_grammar.specs.Values.{Bytes, Reason, Filtering, of_list}
use Rattle.lq_grammar.specs.declared.scope.Scope.{Scope}
use Rattle.lq_grammar.specs.declared.scope.Scope.TheVariants.{Rows, Records}
use Rattle.lq_grammar.specs.LogsQL.{Name, heads, rules, logsql, Parse, next_unary, unary, unit, row_unit, record_unit}
use Rattle.lq_grammar.specs.LogsQL.{selector, word_unit, led, range_led, word_led, mark_leaf, exact, regex, greater}
use Rattle.lq_grammar.specs.LogsQL.{less, star, filtered, denied_of}
use Rattle.lq_grammar.specs.Clauses.{Fails, at, all_at, name_at}

pub named_none : (depth : ℕ) (n : Name) (u : List (Token Bytes)) → next (heads n) u ≡ false
    → name_at depth n u ≡ Err (stuck (length u))
named_none depth n u h = turns.named_none logsql depth n u h

pub named_deep : (depth : ℕ) (n : Name) (u : List (Token Bytes)) → depth ≡ 0 → next (heads n) u ≡ true
    → name_at depth n u ≡ Err (flawed too_deep (place u))
named_deep depth n u e h = turns.named_deep logsql depth n u e h

pub named_more : (depth : ℕ) (n : Name) (t : Token Bytes) (ts : List (Token Bytes)) → 0 < depth
    → has (heads n) t ≡ true → name_at depth n (t ∷ ts) ≡ at (depth - 1) (rules n) ts
named_more depth n t ts e h = turns.named_more logsql depth n t ts e h

pub ruleset name_steps = (named_none, named_deep, named_more)

-- ---- filters joined

abbrev pub gathered : (Conditions → Condition) → Option Bytes → List Condition → Answer Bytes Reason (List Filtering)
    → Answer Bytes Reason Condition
gathered join field list r = mapped (λ filters. of_list join (list ++ map (λ filter. filter field) filters)) r

abbrev found : Condition → List (Token Bytes) → Answer Bytes Reason Condition
found x w = Ok (x, w)

module _ (depth : ℕ) (e : Parse Filtering) (join : Conditions → Condition) (field : Option Bytes)
    (list : List Condition) where
  pub fold_end : (u : List (Token Bytes)) → nullable e ≡ false → next (first heads e) u ≡ false
      → gathered join field list (all_at depth e u) ≡ Ok (of_list join list, u)
  fold_end u some h =
      ap (gathered join field list) (turns.no_turn logsql depth e some u h)
      ∙ ap (λ (l : List Condition). found (of_list join l) u) (append-nil list)

  pub fold_more : (u : List (Token Bytes)) (x : Filtering) (w : List (Token Bytes)) → nullable e ≡ false
      → next (first heads e) u ≡ true → at depth e u ≡ Ok (x, w)
      → gathered join field list (all_at depth e u) ≡ gathered join field (list ++ x field ∷ []) (all_at depth e w)
  fold_more u x w some h is =
      ap (gathered join field list) (turns.one_turn logsql depth e some u x w h is) ∙ by_case (all_at depth e w)
    where
      by_case : (r : Answer Bytes Reason (List Filtering))
          → gathered join field list (r >>= λ xs. Ok (x ∷ xs.0, xs.1)) ≡ gathered join field (list ++ x field ∷ []) r
      by_case (Ok xs) =
          ap (λ (l : List Condition). found (of_list join l) xs.1)
          (sym (append_assoc list (x field ∷ []) (map (λ filter. filter field) xs.0)))
      by_case (Err stop) = refl

  pub fold_bad : (u : List (Token Bytes)) (stop : Stop Reason) → nullable e ≡ false → next (first heads e) u ≡ true
      → at depth e u ≡ Err stop → gathered join field list (all_at depth e u) ≡ Err stop
  fold_bad u stop some h is = ap (gathered join field list) (turns.bad_turn logsql depth e some u stop h is)

pub ruleset fold_steps = (fold_end, fold_more, fold_bad)

-- what was read, where its value was made into another
pub unmapped : {A B : Type 0} (f : A → B) (r : Answer Bytes Reason A) (y : B) (w : List (Token Bytes))
    → mapped f r ≡ Ok (y, w) → (x : A) × (r ≡ Ok (x, w)) × (f x ≡ y)
unmapped {A} {B} f (Err stop) y w e = absurd cc
unmapped {A} {B} f (Ok (x, v)) y w e =
    let p = pair_is (f x) y v w e in (x, ap (λ (l : List (Token Bytes)). Ok (x, l)) p.1, p.0)
  where
    read_as : B → List (Token Bytes) → Answer Bytes Reason B
    read_as z l = Ok (z, l)

    pair_is : (a b : B) (v w : List (Token Bytes)) → read_as a v ≡ read_as b w → (a ≡ b) × (v ≡ w)
    pair_is a b v w e =
        let p : (a, v) ≡ (b, w) = cc in (
          ap (λ (q : B × List (Token Bytes)). q.0) p,
          ap
              (λ (q : B × List (Token Bytes)). q.1) p,
        )

-- what a loop keeps that joins each filter
pub fold_step : (depth : ℕ) (e : Parse Filtering) (join : Conditions → Condition) (field : Option Bytes)
    (list longer : List Condition) (u : List (Token Bytes)) (c : Condition) (w : List (Token Bytes))
    (whole : Answer Bytes Reason Condition)
    → nullable e ≡ false → next (first heads e) u ≡ true → mapped (λ made. made field) (at depth e u) ≡ Ok (c, w)
    → longer ≡ list ++ c ∷ [] → gathered join field list (all_at depth e u) ≡ whole
    → gathered join field longer (all_at depth e w) ≡ whole
fold_step depth e join field list longer u c w whole some h read same before =
    let p = unmapped (λ made. made field) (at depth e u) c w read in
    ap (λ (l : List Condition). gathered join field l (all_at depth e w))
    (same ∙ ap (λ (x : Condition). list ++ x ∷ []) (sym p.2))
    ∙ sym (fold_more depth e join field list u p.0 w some h p.1) ∙ before

pub fold_shorter : (depth : ℕ) (e : Parse Filtering) (field : Option Bytes) (u : List (Token Bytes)) (c : Condition)
    (w : List (Token Bytes)) → nullable e ≡ false → mapped (λ made. made field) (at depth e u) ≡ Ok (c, w)
    → length w < length u
fold_shorter depth e field u c w some read =
    let p = unmapped (λ made. made field) (at depth e u) c w read in takes logsql depth e some u p.0 w p.1

-- ---- negations

-- after the token that opens a name
pub name_read : (depth : ℕ) (n : Name) (u rest : List (Token Bytes)) → 0 < depth
    → one_at {F = Reason} (heads n) (λ _. tt {0}) u ≡ Ok (tt, rest) → name_at depth n u ≡ at (depth - 1) (rules n) rest
name_read depth n [] rest some e = absurd cc
name_read depth n (t ∷ ts) rest some e = by_test (has (heads n) t) refl e
  where
    marked : List (Token Bytes) → Answer Bytes Reason (Unit {0})
    marked l = Ok (tt, l)

    by_test : (b : Bool) → has (heads n) t ≡ b → cond b (marked ts) (Err (stuck (suc (length ts)))) ≡ marked rest
        → name_at depth n (t ∷ ts) ≡ at (depth - 1) (rules n) rest
    by_test true h e =
        named_more depth n t ts some h ∙ ap (at (depth - 1) (rules n)) (rest_is (tt {0}) (tt {0}) ts rest e)
    by_test false h e = absurd cc

-- the negation of the filter that a name holds
abbrev pub denied_in : Option Bytes → Answer Bytes Reason Filtering → Answer Bytes Reason Condition
denied_in field r = mapped (λ value. denied_of value field) (mapped filtered r)

pub deny_ok : (field : Option Bytes) (r : Answer Bytes Reason Filtering) (c : Condition) (w : List (Token Bytes))
    → mapped (λ made. made field) r ≡ Ok (c, w) → denied_in field r ≡ Ok (is.negated c, w)
deny_ok field r c w e =
    let p = unmapped (λ made. made field) r c w e in
    ap (denied_in field) p.1 ∙ ap (λ (x : Condition). found (is.negated x) w) p.2

pub fails_so : (halt : Halt) (field : Option Bytes) (r : Answer Bytes Reason Filtering)
    → Fails halt (mapped (λ made. made field) r) → Fails halt (denied_in field r)
fails_so (Stuck left) field (Ok x) e = absurd cc
fails_so (TooDeep at) field (Ok x) e = absurd cc
fails_so (BadNumber at) field (Ok x) e = absurd cc
fails_so (BadTime at) field (Ok x) e = absurd cc
fails_so (BadDuration at) field (Ok x) e = absurd cc
fails_so (BadPattern at) field (Ok x) e = absurd cc
fails_so Memory field (Ok x) e = tt
fails_so (Stuck left) field (Err stop) e = e
fails_so (TooDeep at) field (Err stop) e = e
fails_so (BadNumber at) field (Err stop) e = e
fails_so (BadTime at) field (Err stop) e = e
fails_so (BadDuration at) field (Err stop) e = e
fails_so (BadPattern at) field (Err stop) e = e
fails_so Memory field (Err stop) e = tt

pub next_some : (scope : Scope) → nullable (next_unary scope) ≡ false
unfolding next_unary unary unit row_unit record_unit selector word_unit led range_led word_led mark_leaf exact regex
    greater less star
next_some Rows = refl
next_some Records = refl
