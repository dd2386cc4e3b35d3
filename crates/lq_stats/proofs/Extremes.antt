-- The least and the greatest of the values of two lists.
use Rattle.std.proofs.Common.{◌≡◌, ℕ, ◌<◌, Bool, true, false, not, ◌||◌, cond, List, [], ◌∷◌, ◌++◌, length}
use Rattle.std.proofs.Common.{refl, sym, ap, ◌∙◌, arith, rules}
use Rattle.std.specs.Ordering.{is_eq, is_gt, is_lt}
use Rattle.std.specs.declared.cmp.Ordering.{Ordering}
use Rattle.std.specs.declared.cmp.Ordering.TheVariants.{Less, Equal, Greater}
use Rattle.log_model.proofs.ValueOrder.{value_cmp_linear}
use Rattle.log_model.specs.Field.{is_empty}
use Rattle.log_model.specs.Order.{value_cmp}
use Rattle.lq_ast.proofs.Sorted.{is_gt_turned}
use Rattle.lq_ast.specs.Statistics.{first_text, last_text}
use Rattle.lq_ast.specs.Tuples.{sorted_by}
use Rattle.lq_tuple.proofs.Once.{count_cons, count_more, filtered_same, sorted_same}
use Rattle.lq_tuple.proofs.Tuples.{value_tells}
use Rattle.lq_stats.proofs.Measuring.{greatest_taken, least_taken}
use Rattle.lq_stats.specs.Measure.{are_filled, greater, lesser}

-- --
empty_is : (v : List ℕ) → is_empty v ≡ true → v ≡ []
empty_is [] e = refl
empty_is (x ∷ xs) e = absurd (empty_not x xs e)
  where
    empty_not : (x : ℕ) (xs : List ℕ) → is_empty (x ∷ xs) ≡ true → ⊥
    empty_not x xs e = let long : length (x ∷ xs) < 1 = search (rules, e) in omega arith

module _ (lt : List ℕ → List ℕ → Bool) (one_way : (a b : List ℕ) → lt a b ≡ true → lt b a ≡ false)
    (chain : (a b c : List ℕ) → lt a b ≡ false → lt b c ≡ false → lt a c ≡ false)
    (tells : (a b : List ℕ) → lt a b ≡ false → lt b a ≡ false → a ≡ b) where
  -- the first of two, where an empty one is none
  unfoldable pub keep : List ℕ → List ℕ → List ℕ
  keep p q = cond (is_empty q) p (cond (is_empty p || lt q p) q p)

  first : List ℕ → List ℕ → List ℕ
  first p q = cond (lt q p) q p

  turned : (p q x : List ℕ) → first (first p q) x ≡ first (first p x) q
  unfolding first
  turned p q x = at (lt q p) (lt x p) (lt x q) (lt q x) refl refl refl refl
    where
      at : (a b c d : Bool) → lt q p ≡ a → lt x p ≡ b → lt x q ≡ c → lt q x ≡ d
          → first (first p q) x ≡ first (first p x) q
      at true true true d ea eb ec ed =
          let no : lt q x ≡ false = one_way x q ec in rw (ea, eb) (rw (ec, no) refl)
      at true false true d ea eb ec ed =
          let no : lt x q ≡ false = chain x p q eb (one_way q p ea) in absurd cc
      at true true false true ea eb ec ed = rw (ea, eb) (rw (ec, ed) refl)
      at true true false false ea eb ec ed = rw (ea, eb) (rw (ec, ed) (sym (tells x q ec ed)))
      at true false false d ea eb ec ed = rw (ea, eb) (rw (ea, ec) refl)
      at false true c d ea eb ec ed =
          let no : lt q x ≡ false = chain q p x ea (one_way x p eb) in rw (ea, eb) (rw no refl)
      at false false c d ea eb ec ed = rw (ea, eb) (rw ea refl)

  two : (q x : List ℕ) → first q x ≡ first x q
  unfolding first
  two q x = at (lt x q) (lt q x) refl refl
    where
      at : (c d : Bool) → lt x q ≡ c → lt q x ≡ d → first q x ≡ first x q
      at true d ec ed = let no : lt q x ≡ false = one_way x q ec in rw (ec, no) refl
      at false true ec ed = rw (ec, ed) refl
      at false false ec ed = rw (ec, ed) (sym (tells x q ec ed))

  none_more : (p q : List ℕ) → is_empty q ≡ true → keep p q ≡ p
  unfolding keep
  none_more p q e = rw e refl

  none_yet : (p q : List ℕ) → is_empty q ≡ false → is_empty p ≡ true → keep p q ≡ q
  unfolding keep
  none_yet p q e f = rw (e, f) refl

  both : (p q : List ℕ) → is_empty q ≡ false → is_empty p ≡ false → keep p q ≡ first p q
  unfolding keep first
  both p q e f = rw (e, f) refl

  first_filled : (p q : List ℕ) → is_empty p ≡ false → is_empty q ≡ false → is_empty (first p q) ≡ false
  unfolding first
  first_filled p q e f = elim (lt q p) as (λ t. is_empty (cond t q p) ≡ false) [ true ↦ f | false ↦ e ]

  pub keep_turned : (p q x : List ℕ) → keep (keep p q) x ≡ keep (keep p x) q
  keep_turned p q x = at (is_empty p) (is_empty q) (is_empty x) refl refl refl
    where
      at : (a b c : Bool) → is_empty p ≡ a → is_empty q ≡ b → is_empty x ≡ c → keep (keep p q) x ≡ keep (keep p x) q
      at a true c ep eq ex = ap (λ z. keep z x) (none_more p q eq) ∙ sym (none_more (keep p x) q eq)
      at a false true ep eq ex = none_more (keep p q) x ex ∙ sym (ap (λ z. keep z q) (none_more p x ex))
      at true false false ep eq ex =
          ap (λ z. keep z x) (none_yet p q eq ep) ∙ both q x ex eq ∙ two q x
          ∙ sym (ap (λ z. keep z q) (none_yet p x ex ep) ∙ both x q eq ex)
      at false false false ep eq ex =
          ap (λ z. keep z x) (both p q eq ep) ∙ both (first p q) x ex (first_filled p q ep eq) ∙ turned p q x
          ∙ sym (ap (λ z. keep z q) (both p x ex ep) ∙ both (first p x) q eq (first_filled p x ep ex))

lt_turned : (a b : List ℕ) → is_gt (value_cmp a b) ≡ is_lt (value_cmp b a)
lt_turned a b = is_gt_turned value_cmp value_cmp_linear.total a b

same_text : (a b : List ℕ) → is_lt (value_cmp a b) ≡ false → is_lt (value_cmp b a) ≡ false → a ≡ b
same_text a b e f = value_tells a b (level (value_cmp a b) e (lt_turned a b ∙ f))
  where
    level : (o : Ordering) → is_lt o ≡ false → is_gt o ≡ false → is_eq o ≡ true
    level Less e f = absurd cc
    level Equal e f = refl
    level Greater e f = absurd cc

pub lesser_turned : (p q x : List ℕ) → lesser (lesser p q) x ≡ lesser (lesser p x) q
unfolding keep
lesser_turned p q x =
    keep_turned (λ a b. is_lt (value_cmp a b)) value_cmp_linear.weak.one_way value_cmp_linear.weak.chain same_text p q x

pub greater_turned : (p q x : List ℕ) → greater (greater p q) x ≡ greater (greater p x) q
unfolding keep
greater_turned p q x =
    keep_turned (λ a b. is_gt (value_cmp a b))
    (λ a b e. lt_turned b a ∙ value_cmp_linear.weak.one_way b a (sym (lt_turned a b) ∙ e))
    (λ a b c e f. lt_turned a c
    ∙ value_cmp_linear.weak.chain c b a (sym (lt_turned b c) ∙ f) (sym (lt_turned a b) ∙ e))
    (λ a b e f. same_text a b (sym (lt_turned b a) ∙ f) (sym (lt_turned a b) ∙ e)) p q x

-- ---- the values of both lists

-- a value at the front and one at the end are kept alike
least_of : List (List ℕ) → List ℕ
least_of values = first_text (sorted_by value_cmp (are_filled values))

greatest_of : List (List ℕ) → List ℕ
greatest_of values = last_text (sorted_by value_cmp (are_filled values))

sorted_front : (value : List ℕ) (values : List (List ℕ))
    → sorted_by value_cmp (are_filled (value ∷ values)) ≡ sorted_by value_cmp (are_filled (values ++ value ∷ []))
sorted_front value values =
    sorted_same value_cmp value_cmp_linear.total value_tells (are_filled (value ∷ values))
    (are_filled (values ++ value ∷ []))
    (filtered_same value_cmp value_cmp_linear.total value_tells (λ v. not (is_empty v)) (value ∷ values)
    (values ++ value ∷ []) (λ x.
    let front = count_cons (λ y. is_eq (value_cmp x y)) value values in
    let end = count_more (λ y. is_eq (value_cmp x y)) values value in
    omega arith))

module _ (keep : List ℕ → List ℕ → List ℕ) (best : List (List ℕ) → List ℕ) (none : (q : List ℕ) → keep (best []) q ≡ q)
    (front : (x : List ℕ) (xs : List (List ℕ)) → best (x ∷ xs) ≡ keep (best xs) x)
    (turned : (p q x : List ℕ) → keep (keep p q) x ≡ keep (keep p x) q) where
  best_joined : (xs ys : List (List ℕ)) → best (xs ++ ys) ≡ keep (best xs) (best ys)
  best_joined [] ys = sym (none (best ys))
  best_joined (x ∷ xs) ys =
      front x (xs ++ ys) ∙ ap (λ z. keep z x) (best_joined xs ys) ∙ turned (best xs) (best ys) x
      ∙ ap (λ z. keep z (best ys)) (sym (front x xs))

lesser_none : (q : List ℕ) → lesser [] q ≡ q
lesser_none q = at (is_empty q) refl
  where
    at : (b : Bool) → is_empty q ≡ b → lesser [] q ≡ q
    at true e = rw e (sym (empty_is q e))
    at false e = rw e refl

greater_none : (q : List ℕ) → greater [] q ≡ q
greater_none q = at (is_empty q) refl
  where
    at : (b : Bool) → is_empty q ≡ b → greater [] q ≡ q
    at true e = rw e (sym (empty_is q e))
    at false e = rw e refl

pub least_joined : (xs ys : List (List ℕ))
    → lesser (first_text (sorted_by value_cmp (are_filled xs))) (first_text (sorted_by value_cmp (are_filled ys)))
    ≡ first_text (sorted_by value_cmp (are_filled (xs ++ ys)))
unfolding least_of sorted_by
least_joined xs ys =
    sym (best_joined lesser least_of lesser_none
    (λ x zs. ap first_text (sorted_front x zs) ∙ sym (least_taken zs x)) lesser_turned xs ys)

pub greatest_joined : (xs ys : List (List ℕ))
    → greater (last_text (sorted_by value_cmp (are_filled xs))) (last_text (sorted_by value_cmp (are_filled ys)))
    ≡ last_text (sorted_by value_cmp (are_filled (xs ++ ys)))
unfolding greatest_of sorted_by
greatest_joined xs ys =
    sym (best_joined greater greatest_of greater_none
    (λ x zs. ap last_text (sorted_front x zs) ∙ sym (greatest_taken zs x)) greater_turned xs ys)
