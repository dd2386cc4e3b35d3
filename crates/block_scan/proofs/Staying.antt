-- Marks that stay, one item after another.
use Rattle.std.proofs.Common.{◌≡◌, ℕ, zero, suc, ◌+◌, ◌<◌, ◌≤◌, Bool, true, false, ◌&&◌, ◌||◌, not, List, [], ◌∷◌, ◌++◌}
use Rattle.std.proofs.Common.{length, get_or, nat_lt, set, take, map, zip, replicate, refl, sym, ap, ◌∙◌, arith}
use Rattle.std.proofs.lemmas.List.{get_or-map, set-get_or, take_all, take_more}
use Rattle.std.specs.List.{All, list_all, list_any}
use Rattle.std.proofs.lemmas.Bool.Decides.{nat_tests}
use Rattle.std.proofs.lemmas.List.Elements.{All-head, All-tail}
use Rattle.block_scan.specs.Marks.{kept}

-- ---- the first items have been asked

unfoldable pub walked : {A : Type 0} → (A → Bool) → ℕ → List A → List Bool → List Bool
walked test zero items marks = marks
walked test (suc i) [] marks = marks
walked test (suc i) (x ∷ xs) [] = []
walked test (suc i) (x ∷ xs) (m ∷ ms) = (m && test x) ∷ walked test i xs ms

module _ {A : Type 0} (test : A → Bool) where
  walked_more : (i : ℕ) (items : List A) (marks : List Bool) (e : A) (d : Bool) → i < length items
      → i < length marks
      → walked test (suc i) items marks ≡ set (walked test i items marks) i (get_or marks i d && test (get_or items i e))
  unfolding walked
  walked_more i [] marks e d h k = absurd (omega arith)
  walked_more i (x ∷ xs) [] e d h k = absurd (omega arith)
  walked_more zero (x ∷ xs) (m ∷ ms) e d h k = refl
  walked_more (suc i) (x ∷ xs) (m ∷ ms) e d h k =
      ap (λ l. (m && test x) ∷ l) (walked_more i xs ms e d (omega arith) (omega arith))

  at_walked : (i : ℕ) (items : List A) (marks : List Bool) (d : Bool)
      → get_or (walked test i items marks) i d ≡ get_or marks i d
  unfolding walked
  at_walked zero items marks d = refl
  at_walked (suc i) [] marks d = refl
  at_walked (suc i) (x ∷ xs) [] d = refl
  at_walked (suc i) (x ∷ xs) (m ∷ ms) d = at_walked i xs ms d

  pub length-walked : (i : ℕ) (items : List A) (marks : List Bool) → length (walked test i items marks) ≡ length marks
  unfolding walked
  length-walked zero items marks = refl
  length-walked (suc i) [] marks = refl
  length-walked (suc i) (x ∷ xs) [] = refl
  length-walked (suc i) (x ∷ xs) (m ∷ ms) = ap suc (length-walked i xs ms)

  pub none_walked : (items : List A) (marks : List Bool) → marks ≡ walked test 0 items marks
  unfolding walked
  none_walked items marks = refl

  pub walked_all : (i : ℕ) (items : List A) (marks : List Bool) → length items ≤ i → length marks ≡ length items
      → walked test i items marks ≡ kept test items marks
  unfolding walked
  walked_all zero [] [] h k = refl
  walked_all (suc i) [] [] h k = refl
  walked_all i [] (m ∷ ms) h k = absurd (omega arith)
  walked_all i (x ∷ xs) [] h k = absurd (omega arith)
  walked_all zero (x ∷ xs) (m ∷ ms) h k = absurd (omega arith)
  walked_all (suc i) (x ∷ xs) (m ∷ ms) h k =
      ap (λ l. (m && test x) ∷ l) (walked_all i xs ms (omega arith) (omega arith))

  module _ (i : ℕ) (items : List A) (old marks : List Bool) (so_far : marks ≡ walked test i items old)
      (within : i < length items) (long : length old ≡ length items) where
    pub both : (d : Bool) (e : A) → walked test (i + 1) items old ≡ set marks i (get_or marks i d && test (get_or items i e))
    both d e =
        let more : i + 1 ≡ suc i = omega arith in
        ap (λ n. walked test n items old) more
        ∙ walked_more i items old e d within (omega arith)
        ∙ ap (λ b. set (walked test i items old) i (b && test (get_or items i e))) (sym (at_walked i items old d))
        ∙ ap (λ l. set l i (get_or l i d && test (get_or items i e))) (sym so_far)

    -- the item was asked
    pub asked : (d b : Bool) (e : A) → get_or marks i d ≡ true → b ≡ test (get_or items i e)
        → set marks i b ≡ walked test (i + 1) items old
    asked d b e marked is =
        ap (set marks i) is ∙ sym (both d e ∙ ap (λ c. set marks i (c && test (get_or items i e))) marked)

    -- the item was not marked
    pub passed : (d : Bool) (e : A) → get_or marks i d ≡ false → marks ≡ walked test (i + 1) items old
    passed d e unmarked =
        sym (set-get_or marks i d) ∙ ap (set marks i) unmarked
        ∙ sym (both d e ∙ ap (λ c. set marks i (c && test (get_or items i e))) unmarked)

-- ---- what stays

and_true : (b : Bool) → b && true ≡ b
and_true true = refl
and_true false = refl

and_false : (b : Bool) → b && false ≡ false
and_false true = refl
and_false false = refl

-- all marks stay
pub all_stay : (marks : List Bool) → marks ≡ map (λ mark. mark && true) marks
all_stay [] = refl
all_stay (m ∷ ms) = ap (λ b. b ∷ ms) (sym (and_true m)) ∙ ap (λ l. (m && true) ∷ l) (all_stay ms)

-- no mark stays
pub none_stays : (marks old : List Bool) → length marks ≡ length old
    → ((k : ℕ) (d : Bool) → k < length marks → get_or marks k d ≡ false) → marks ≡ map (λ mark. mark && false) old
none_stays [] [] h each = refl
none_stays [] (o ∷ os) h each = absurd (omega arith)
none_stays (m ∷ ms) [] h each = absurd (omega arith)
none_stays (m ∷ ms) (o ∷ os) h each =
    ap (λ b. b ∷ ms) (each 0 m (omega arith) ∙ sym (and_false o))
    ∙ ap (λ l. (o && false) ∷ l) (none_stays ms os (omega arith) (λ k d within. each (suc k) d (omega arith)))

and_not : (b c : Bool) → b && not (b && c) ≡ b && not c
and_not true c = refl
and_not false c = refl

and_and : (b c d : Bool) → (b && c) && d ≡ b && (c && d)
and_and true c d = refl
and_and false c d = refl

module _ {A : Type 0} where
  pub length-kept : (test : A → Bool) (items : List A) (marks : List Bool) → length marks ≡ length items
      → length (kept test items marks) ≡ length items
  length-kept test [] [] h = refl
  length-kept test [] (m ∷ ms) h = absurd (omega arith)
  length-kept test (x ∷ xs) [] h = absurd (omega arith)
  length-kept test (x ∷ xs) (m ∷ ms) h = ap suc (length-kept test xs ms (omega arith))

  -- the same test, asked of what the items have
  pub kept-map : {B : Type 0} (test : B → Bool) (f : A → B) (items : List A) (marks : List Bool)
      → kept test (map f items) marks ≡ kept (λ x. test (f x)) items marks
  kept-map test f [] [] = refl
  kept-map test f [] (m ∷ ms) = refl
  kept-map test f (x ∷ xs) [] = refl
  kept-map test f (x ∷ xs) (m ∷ ms) = ap (λ l. (m && test (f x)) ∷ l) (kept-map test f xs ms)

  -- two tests, one after the other
  pub kept-twice : (test more : A → Bool) (items : List A) (marks : List Bool)
      → kept more items (kept test items marks) ≡ kept (λ x. test x && more x) items marks
  kept-twice test more [] [] = refl
  kept-twice test more [] (m ∷ ms) = refl
  kept-twice test more (x ∷ xs) [] = refl
  kept-twice test more (x ∷ xs) (m ∷ ms) =
      ap (λ b. b ∷ kept more xs (kept test xs ms)) (and_and m (test x) (more x))
      ∙ ap (λ l. (m && (test x && more x)) ∷ l) (kept-twice test more xs ms)

  -- what stays is taken away
  pub kept-removed : (test : A → Bool) (items : List A) (marks : List Bool) → length marks ≡ length items
      → map (λ (p : Bool × Bool). p.0 && not p.1) (zip marks (kept test items marks))
      ≡ kept (λ x. not (test x)) items marks
  kept-removed test [] [] h = refl
  kept-removed test [] (m ∷ ms) h = refl
  kept-removed test (x ∷ xs) [] h = refl
  kept-removed test (x ∷ xs) (m ∷ ms) h =
      ap (λ b. b ∷ map (λ (p : Bool × Bool). p.0 && not p.1) (zip ms (kept test xs ms))) (and_not m (test x))
      ∙ ap (λ l. (m && not (test x)) ∷ l) (kept-removed test xs ms (omega arith))

  -- all items, or none, pass
  pub kept-constant : (test : A → Bool) (stay : Bool) (items : List A) (marks : List Bool)
      → All (λ x. test x ≡ stay) items → length marks ≡ length items
      → map (λ mark. mark && stay) marks ≡ kept test items marks
  kept-constant test stay [] [] all h = refl
  kept-constant test stay [] (m ∷ ms) all h = absurd (omega arith)
  kept-constant test stay (x ∷ xs) [] all h = absurd (omega arith)
  kept-constant test stay (x ∷ xs) (m ∷ ms) all h =
      ap (λ b. (m && b) ∷ map (λ mark. mark && stay) ms) (sym (All-head (λ x. test x ≡ stay) x xs all))
      ∙ ap (λ l. (m && test x) ∷ l)
      (kept-constant test stay xs ms (All-tail (λ x. test x ≡ stay) x xs all) (omega arith))

  -- there is no mark
  pub kept-empty : (test : A → Bool) (items : List A) (marks : List Bool) → length marks ≡ 0 → marks ≡ kept test items marks
  kept-empty test [] [] h = refl
  kept-empty test (x ∷ xs) [] h = refl
  kept-empty test items (m ∷ ms) h = absurd (omega arith)

  -- all items are the same
  pub kept-replicate : (test : A → Bool) (count : ℕ) (x : A) (marks : List Bool)
      → length marks ≡ length (replicate count x) → map (λ mark. mark && test x) marks ≡ kept test (replicate count x) marks
  kept-replicate test zero x [] h = refl
  kept-replicate test zero x (m ∷ ms) h = absurd (omega arith)
  kept-replicate test (suc count) x [] h = refl
  kept-replicate test (suc count) x (m ∷ ms) h =
      ap (λ l. (m && test x) ∷ l) (kept-replicate test count x ms (omega arith))

  -- each item passes
  pub kept-always : (items : List A) (marks : List Bool) → length marks ≡ length items
      → kept (λ x. true) items marks ≡ marks
  kept-always [] [] h = refl
  kept-always [] (m ∷ ms) h = absurd (omega arith)
  kept-always (x ∷ xs) [] h = refl
  kept-always (x ∷ xs) (m ∷ ms) h =
      ap (λ b. b ∷ kept (λ y. true) xs ms) (and_true m) ∙ ap (λ l. m ∷ l) (kept-always xs ms (omega arith))

  -- all items were marked
  pub kept-from_all : (test : A → Bool) (items : List A) → kept test items (replicate (length items) true) ≡ map test items
  kept-from_all test [] = refl
  kept-from_all test (x ∷ xs) = ap (λ l. test x ∷ l) (kept-from_all test xs)

  -- no item was marked
  pub kept-from_none : (test : A → Bool) (items : List A) (marks : List Bool) → length marks ≡ length items
      → list_any (λ mark. mark) marks ≡ false → kept test items marks ≡ marks
  kept-from_none test [] [] h e = refl
  kept-from_none test [] (m ∷ ms) h e = absurd (omega arith)
  kept-from_none test (x ∷ xs) [] h e = refl
  kept-from_none test (x ∷ xs) (true ∷ ms) h e = absurd (let bad : true ≡ false = e in cc)
  kept-from_none test (x ∷ xs) (false ∷ ms) h e = ap (λ l. false ∷ l) (kept-from_none test xs ms (omega arith) e)

-- ---- codes

both_true : (a b : Bool) → a && b ≡ true → (a ≡ true) × (b ≡ true)
both_true true b e = (refl, e)
both_true false b e = absurd (let bad : false ≡ true = e in cc)

is_below : (code count : ℕ) → nat_lt code count ≡ true → code < count
is_below code count e = grind (arith, nat_tests)

-- the text of each code was asked
pub kept-coded : (test : List ℕ → Bool) (texts : List (List ℕ)) (codes : List ℕ) (marks : List Bool)
    → list_all (λ code. nat_lt code (length texts)) codes ≡ true
    → kept (λ code. get_or (map test texts) code false) codes marks
    ≡ kept (λ code. test (get_or texts code [])) codes marks
kept-coded test texts [] [] e = refl
kept-coded test texts [] (m ∷ ms) e = refl
kept-coded test texts (c ∷ cs) [] e = refl
kept-coded test texts (c ∷ cs) (m ∷ ms) e =
    let parts = both_true (nat_lt c (length texts)) (list_all (λ code. nat_lt code (length texts)) cs) e in
    ap (λ b. (m && b) ∷ kept (λ code. get_or (map test texts) code false) cs ms)
    (get_or-map test texts c [] false (is_below c (length texts) parts.0))
    ∙ ap (λ l. (m && test (get_or texts c [])) ∷ l) (kept-coded test texts cs ms parts.1)

-- ---- some tests

all_last : {X : Type 0} (p : X → Bool) (xs : List X) (x : X) → list_all p (xs ++ x ∷ []) ≡ list_all p xs && p x
all_last p [] x = and_true (p x)
all_last p (y ∷ ys) x =
    ap (λ b. p y && b) (all_last p ys x) ∙ sym (and_and (p y) (list_all p ys) (p x))

not_or : (a b : Bool) → not (a || b) ≡ not a && not b
not_or true b = refl
not_or false b = refl

not_or_false : (a : Bool) → not (a || false) ≡ not a
not_or_false true = refl
not_or_false false = refl

not_not : (a : Bool) → not (not a) ≡ a
not_not true = refl
not_not false = refl

none_last : {X : Type 0} (p : X → Bool) (xs : List X) (x : X)
    → not (list_any p (xs ++ x ∷ [])) ≡ not (list_any p xs) && not (p x)
none_last p [] x = not_or_false (p x)
none_last p (y ∷ ys) x =
    not_or (p y) (list_any p (ys ++ x ∷ [])) ∙ ap (λ b. not (p y) && b) (none_last p ys x)
    ∙ sym (ap (λ b. b && not (p x)) (not_or (p y) (list_any p ys)) ∙ and_and (not (p y)) (not (list_any p ys)) (not (p x)))

module _ {X A : Type 0} (test : X → A → Bool) (tests : List X) (items : List A) (old : List Bool) where
  -- the marks of the items that pass the first tests
  abbrev pub passed_first : ℕ → List Bool
  passed_first i = kept (λ item. list_all (λ t. test t item) (take i tests)) items old

  -- the marks of the items that pass none of the first tests
  abbrev pub failed_first : ℕ → List Bool
  failed_first i = kept (λ item. not (list_any (λ t. test t item) (take i tests))) items old

  pub no_test_passed : length old ≡ length items → old ≡ passed_first 0
  no_test_passed long = sym (kept-always items old long)

  pub no_test_failed : length old ≡ length items → old ≡ failed_first 0
  no_test_failed long = sym (kept-always items old long)

  module _ (i : ℕ) (t : X) (marks new : List Bool) (within : i < length tests) (is : t ≡ get_or tests i t) where
    one_more : take (i + 1) tests ≡ take i tests ++ t ∷ []
    one_more = take_more tests i t within ∙ ap (λ u. take i tests ++ u ∷ []) (sym is)

    pub passed_more : marks ≡ passed_first i → new ≡ kept (test t) items marks → new ≡ passed_first (i + 1)
    passed_more so_far asked =
        asked ∙ ap (kept (test t) items) so_far
        ∙ kept-twice (λ item. list_all (λ u. test u item) (take i tests)) (test t) items old
        ∙ (λ j. kept (λ item. sym (all_last (λ u. test u item) (take i tests) t) j) items old)
        ∙ ap (λ l. kept (λ item. list_all (λ u. test u item) l) items old) (sym one_more)

    pub failed_more : marks ≡ failed_first i → new ≡ kept (λ item. not (test t item)) items marks
        → new ≡ failed_first (i + 1)
    failed_more so_far asked =
        asked ∙ ap (kept (λ item. not (test t item)) items) so_far
        ∙ kept-twice (λ item. not (list_any (λ u. test u item) (take i tests))) (λ item. not (test t item)) items old
        ∙ (λ j. kept (λ item. sym (none_last (λ u. test u item) (take i tests) t) j) items old)
        ∙ ap (λ l. kept (λ item. not (list_any (λ u. test u item) l)) items old) (sym one_more)

  pub passed_all : (i : ℕ) (marks : List Bool) → length tests ≤ i → marks ≡ passed_first i
      → marks ≡ kept (λ item. list_all (λ t. test t item) tests) items old
  passed_all i marks ends so_far =
      so_far ∙ ap (λ l. kept (λ item. list_all (λ t. test t item) l) items old) (take_all i tests ends)

  -- what failed all tests is taken away
  pub passed_some : (i : ℕ) (left new : List Bool) → length tests ≤ i → left ≡ failed_first i
      → length old ≡ length items → new ≡ kept not left old
      → new ≡ kept (λ item. list_any (λ t. test t item) tests) items old
  passed_some i left new ends so_far long removed =
      removed ∙ ap (λ l. kept not l old) (so_far
      ∙ ap (λ l. kept (λ item. not (list_any (λ t. test t item) l)) items old) (take_all i tests ends))
      ∙ kept-removed (λ item. not (list_any (λ t. test t item) tests)) items old long
      ∙ (λ j. kept (λ item. not_not (list_any (λ t. test t item) tests) j) items old)
