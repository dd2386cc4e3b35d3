-- Texts in order are known by which texts are among them.
use Rattle.std.proofs.Common.{◌≡◌, ℕ, zero, suc, ◌*◌, ◌<◌, ◌≤◌, Bool, true, false, List, [], ◌∷◌, length}
use Rattle.std.proofs.Common.{get_or, inl, inr, refl, sym, ap, ◌∙◌, arith}
use Rattle.std.specs.Prelude.{◌||◌, bytes_eq, replicate, sum_by}
use Rattle.std.specs.BTreeSet.{insert_key}
use Rattle.std.specs.List.{fold, list_all}
use Rattle.std.specs.Ordering.{is_eq, match_ordering, ordering_reverse}
use Rattle.std.specs.declared.cmp.Ordering.{Ordering}
use Rattle.std.specs.declared.cmp.Ordering.TheVariants.{Less, Equal, Greater}
use Rattle.std.proofs.lemmas.Bool.{cases_Bool, leb-true}
use Rattle.std.proofs.lemmas.Cmp.{nat_list_cmp_total}
use Rattle.std.proofs.lemmas.List.Sums.{sum_by-cons}
use Rattle.std.proofs.lemmas.Map.Keys.{sorted_head, sorted_tail}
use Rattle.std.proofs.lemmas.Map.Lookups.{exact_bytes}
use Rattle.std.proofs.lemmas.Map.Text.{is_eq-slice_cmp}
use Rattle.std.proofs.lemmas.Slice.Eq.{bytes_eq-Decides}
use Rattle.byte_format.proofs.Cases.{both_true}
use Rattle.log_model.specs.Field.{bytes_cmp}
use Rattle.block_model.specs.Distinct.{HaveSameTexts, code_of, distinct, is_listed, is_short}
use Rattle.block_model.proofs.Distinct.{itself, put-keeps}
use Rattle.std.specs.List.Sorted.{IsStrictlySortedBy}
use Rattle.block_model.proofs.Rising.{Above, IsRising, above-along, distinct-rising, not-behind}

-- ---- tests

either-twice : (a b c : Bool) → a ≡ b → (b || c) ≡ (a || (b || c))
either-twice true true c e = refl
either-twice true false c e = absurd cc
either-twice false true c e = absurd cc
either-twice false false c e = refl

either-other : (a b c : Bool) → (a || (b || c)) ≡ (b || (a || c))
either-other true true c = refl
either-other true false c = refl
either-other false true c = refl
either-other false false c = refl

either-turned : (a b c : Bool) → ((a || b) || c) ≡ (b || (a || c))
either-turned true true c = refl
either-turned true false c = refl
either-turned false true c = refl
either-turned false false c = refl

neither-first : (a b c d : Bool) → a ≡ false → b ≡ false → (a || c) ≡ (b || d) → c ≡ d
neither-first false false c d p q e = e
neither-first true b c d p q e = absurd cc
neither-first false true c d p q e = absurd cc

either-none : (a : Bool) → a ≡ (a || false)
either-none true = refl
either-none false = refl

-- ---- which texts are among them

abbrev with_key : List (List ℕ) → List ℕ → List (List ℕ)
with_key keys key = insert_key bytes_cmp keys key

pub put-listed : (text key : List ℕ) (keys : List (List ℕ))
    → is_listed (with_key keys key) text ≡ (bytes_eq text key || is_listed keys text)
put-listed text key [] = refl
put-listed text key (k ∷ ks) = by (bytes_cmp key k) refl (put-listed text key ks)
  where
    by : (o : Ordering) → bytes_cmp key k ≡ o
        → is_listed (with_key ks key) text ≡ (bytes_eq text key || is_listed ks text)
        → is_listed (match_ordering o (key ∷ k ∷ ks) (k ∷ ks) (k ∷ with_key ks key)) text
        ≡ (bytes_eq text key || (bytes_eq text k || is_listed ks text))
    by Less e h = refl
    by Equal e h =
        either-twice (bytes_eq text key) (bytes_eq text k) (is_listed ks text) (ap (bytes_eq text) (exact_bytes key k e))
    by Greater e h =
        ap (λ (t : Bool). bytes_eq text k || t) h
        ∙ either-other (bytes_eq text k) (bytes_eq text key) (is_listed ks text)

pub all-listed : (text : List ℕ) (texts keys : List (List ℕ))
    → is_listed (fold (insert_key bytes_cmp) keys texts) text ≡ (is_listed keys text || is_listed texts text)
all-listed text [] keys = either-none (is_listed keys text)
all-listed text (t ∷ ts) keys =
    all-listed text ts (with_key keys t)
    ∙ ap (λ (b : Bool). b || is_listed ts text) (put-listed text t keys)
    ∙ either-turned (bytes_eq text t) (is_listed keys text) (is_listed ts text)

pub distinct-listed : (text : List ℕ) (texts : List (List ℕ)) → is_listed (distinct texts) text ≡ is_listed texts text
distinct-listed text texts = all-listed text texts []

first-listed : (text : List ℕ) (texts : List (List ℕ)) → is_listed (text ∷ texts) text ≡ true
first-listed text texts = rw (itself text) refl

behind-first : (x y : List ℕ) (xs ys : List (List ℕ)) (text : List ℕ) → x ≡ y → Above x xs → Above y ys
    → is_listed (x ∷ xs) text ≡ is_listed (y ∷ ys) text → is_listed xs text ≡ is_listed ys text
behind-first x y xs ys text same a b e =
    elim (cases_Bool (bytes_eq text x)) [
      | inl is ↦
          let at : text ≡ x = (bytes_eq-Decides text x).0 is in
          let left : is_listed xs text ≡ false = ap (is_listed xs) at ∙ not-behind x xs a in
          let right : is_listed ys text ≡ false = ap (is_listed ys) (at ∙ same) ∙ not-behind y ys b in
          left ∙ sym right
      | inr other ↦
          let also : bytes_eq text y ≡ false = ap (bytes_eq text) (sym same) ∙ other in
          neither-first (bytes_eq text x) (bytes_eq text y) (is_listed xs text) (is_listed ys text) other also e
    ]

-- Two lists in order that have the same texts are one.
pub same-rising : (xs ys : List (List ℕ)) → IsRising xs → IsRising ys → HaveSameTexts xs ys → xs ≡ ys
same-rising [] [] s t e = refl
same-rising [] (y ∷ ys) s t e = absurd (let no : false ≡ true = e y ∙ first-listed y ys in cc)
same-rising (x ∷ xs) [] s t e = absurd (let no : true ≡ false = sym (first-listed x xs) ∙ e x in cc)
same-rising (x ∷ xs) (y ∷ ys) s t e =
    by (bytes_cmp x y) refl (same-rising xs ys (sorted_tail bytes_cmp x xs s) (sorted_tail bytes_cmp y ys t))
  where
    by : (o : Ordering) → bytes_cmp x y ≡ o → (HaveSameTexts xs ys → xs ≡ ys) → x ∷ xs ≡ y ∷ ys
    by Less c later =
        let none = not-behind x (y ∷ ys) (c, above-along x y ys c (sorted_head bytes_cmp y ys t)) in
        absurd (let no : true ≡ false = sym (first-listed x xs) ∙ e x ∙ none in cc)
    by Equal c later =
        let same : x ≡ y = exact_bytes x y c in
        ap (λ (l : List (List ℕ)). x ∷ l) (later (λ text. behind-first x y xs ys text same (sorted_head bytes_cmp x xs s)
        (sorted_head bytes_cmp y ys t) (e text)))
        ∙ ap (λ (z : List ℕ). z ∷ ys) same
    by Greater c later =
        let back : bytes_cmp y x ≡ Less = nat_list_cmp_total.antisymm y x ∙ ap ordering_reverse c in
        let none = not-behind y (x ∷ xs) (back, above-along y x xs back (sorted_head bytes_cmp x xs s)) in
        absurd (let no : true ≡ false = sym (first-listed y ys) ∙ sym (e y) ∙ none in cc)

-- what passes for all passes for a text that is one of them
pub each-listed : (p : List ℕ → Bool) (text : List ℕ) (texts : List (List ℕ)) → list_all p texts ≡ true
    → is_listed texts text ≡ true → p text ≡ true
each-listed p text [] all one = absurd cc
each-listed p text (t ∷ ts) all one =
    by (bytes_eq text t) refl one (each-listed p text ts (both_true (p t) (list_all p ts) all).1)
  where
    by : (b : Bool) → bytes_eq text t ≡ b → (b || is_listed ts text) ≡ true
        → (is_listed ts text ≡ true → p text ≡ true) → p text ≡ true
    by true same h later = ap p ((bytes_eq-Decides text t).0 same) ∙ (both_true (p t) (list_all p ts) all).0
    by false same h later = later h

-- what was there stays there
pub listed-kept : (texts slots : List (List ℕ)) (key : List ℕ) → list_all (is_listed texts) slots ≡ true
    → list_all (is_listed (insert_key bytes_cmp texts key)) slots ≡ true
listed-kept texts [] key e = refl
listed-kept texts (s ∷ ss) key e =
    let p = both_true (is_listed texts s) (list_all (is_listed texts) ss) e in
    rw (put-keeps (bytes_eq s) key texts p.0) (listed-kept texts ss key p.1)

-- ---- the code of a text that stands there

above-at : (x : List ℕ) (xs : List (List ℕ)) (i : ℕ) → Above x xs → i < length xs → bytes_cmp x (get_or xs i []) ≡ Less
above-at x [] i a lt = absurd (omega (arith, lt))
above-at x (y ∷ ys) zero a lt = a.0
above-at x (y ∷ ys) (suc i) a lt = above-at x ys i a.1 (omega (arith, lt))

pub code-at : (keys : List (List ℕ)) (text : List ℕ) (i : ℕ) → IsRising keys → i < length keys
    → get_or keys i [] ≡ text → code_of keys text ≡ i
code-at [] text i s lt e = absurd (omega (arith, lt))
code-at (x ∷ xs) text zero s lt e =
    let same : bytes_eq text x ≡ true = (bytes_eq-Decides text x).1 (sym e) in
    rw same refl
code-at (x ∷ xs) text (suc i) s lt e =
    let later : code_of xs text ≡ i = code-at xs text i (sorted_tail bytes_cmp x xs s) (omega (arith, lt)) e in
    let below : bytes_cmp x text ≡ Less = ap (bytes_cmp x) (sym e) ∙ above-at x xs i (sorted_head bytes_cmp x xs s)
    (omega (arith, lt)) in
    let other : bytes_eq text x ≡ false = sym (is_eq-slice_cmp text x)
    ∙ ap is_eq (nat_list_cmp_total.antisymm text x ∙ ap ordering_reverse below) in
    rw other (omega (arith, later))

-- ---- the texts that a column has

none-there : (text other : List ℕ) (n : ℕ) → bytes_eq text other ≡ false → is_listed (replicate n other) text ≡ false
none-there text other zero e = refl
none-there text other (suc n) e = rw e (none-there text other n e)

same-one : (text : List ℕ) (rows : ℕ) → 0 < rows → HaveSameTexts (text ∷ []) (replicate rows text)
same-one text zero lt t = absurd (omega (arith, lt))
same-one text (suc n) lt t =
    elim (cases_Bool (bytes_eq t text)) [
      | inl same ↦ rw same refl
      | inr other ↦ rw (other, none-there t text n other) refl
    ]

-- a text however often, once
pub one-distinct : (text : List ℕ) (rows : ℕ) → 0 < rows → text ∷ [] ≡ distinct (replicate rows text)
unfolding IsStrictlySortedBy
one-distinct text rows some =
    same-rising (text ∷ []) (distinct (replicate rows text)) (tt, tt) (distinct-rising (replicate rows text))
    (λ t. same-one text rows some t ∙ sym (distinct-listed t (replicate rows text)))

pub short-size : (texts : List (List ℕ)) → list_all is_short texts ≡ true → sum_by length texts ≤ 256 * length texts
short-size [] e = omega arith
short-size (t ∷ ts) e =
    let p = both_true (is_short t) (list_all is_short ts) e in
    omega (arith, sum_by-cons length t ts, leb-true (length t) 256 p.0, short-size ts p.1)
