-- The distinct texts among texts.
use Rattle.std.proofs.Common.{◌≡◌, ℕ, zero, suc, ◌+◌, ◌<◌, ◌≤◌, Bool, true, false, cond, List, [], ◌∷◌, ◌++◌, length}
use Rattle.std.proofs.Common.{get_or, take, drop, map, ltb, Some, refl, sym, ap, ◌∙◌, arith}
use Rattle.std.specs.Prelude.{◌||◌, ◌&&◌, not, bytes_eq}
use Rattle.std.specs.List.{fold, list_all, list_any, slice_get, All, AllByRecursion}
use Rattle.std.specs.BTreeSet.{insert_key}
use Rattle.std.specs.declared.cmp.Ordering.{Ordering}
use Rattle.std.specs.declared.cmp.Ordering.TheVariants.{Less, Equal, Greater}
use Rattle.std.specs.Ordering.{match_ordering}
use Rattle.std.proofs.lemmas.Bool.{lt-ltb, ltb-true}
use Rattle.std.proofs.lemmas.List.{drop_more, map_more, map-append, take-append-drop}
use Rattle.std.proofs.lemmas.List.Elements.{All-from_recursion}
use Rattle.std.proofs.lemmas.List.Folds.{list_all-append, list_all-map}
use Rattle.std.proofs.lemmas.List.Sums.{fold-append, fold_push}
use Rattle.std.proofs.lemmas.Option.{slice_get-get_or}
use Rattle.std.proofs.lemmas.Map.Lookups.{exact_bytes}
use Rattle.std.proofs.lemmas.Slice.Eq.{bytes_eq-Decides}
use Rattle.byte_format.proofs.Cases.{both_true, second_false, some_is}
use Rattle.log_model.specs.Field.{bytes_cmp}
use Rattle.block_model.specs.Distinct.{code_of, codes_of, distinct, text_at}

abbrev with_key : List (List ℕ) → List ℕ → List (List ℕ)
with_key keys key = insert_key bytes_cmp keys key

left_true : (a b : Bool) → a ≡ true → (a || b) ≡ true
left_true true b e = refl
left_true false b e = absurd cc

pub right_true : (a b : Bool) → b ≡ true → (a || b) ≡ true
right_true true b e = refl
right_true false b e = e

pub either_kept : (a b c : Bool) → (a || b) ≡ true → (b ≡ true → c ≡ true) → (a || c) ≡ true
either_kept true b c e h = refl
either_kept false b c e h = h e

both_from : (a b : Bool) → a ≡ true → b ≡ true → (a && b) ≡ true
both_from true b p q = q
both_from false b p q = absurd cc

pub itself : (text : List ℕ) → bytes_eq text text ≡ true
itself text = (bytes_eq-Decides text text).1 refl

-- a text is there once it was put
pub put-has : (key : List ℕ) (keys : List (List ℕ)) → list_any (bytes_eq key) (with_key keys key) ≡ true
put-has key [] = left_true (bytes_eq key key) false (itself key)
put-has key (x ∷ xs) = by (bytes_cmp key x) refl (put-has key xs)
  where
    by : (o : Ordering) → bytes_cmp key x ≡ o → list_any (bytes_eq key) (with_key xs key) ≡ true
        → list_any (bytes_eq key) (match_ordering o (key ∷ x ∷ xs) (x ∷ xs) (x ∷ with_key xs key)) ≡ true
    by Less e h = left_true (bytes_eq key key) (list_any (bytes_eq key) (x ∷ xs)) (itself key)
    by Equal e h =
        left_true (bytes_eq key x) (list_any (bytes_eq key) xs) ((bytes_eq-Decides key x).1 (exact_bytes key x e))
    by Greater e h = right_true (bytes_eq key x) (list_any (bytes_eq key) (with_key xs key)) h

-- and so are those that were there
pub put-keeps : (p : List ℕ → Bool) (key : List ℕ) (keys : List (List ℕ)) → list_any p keys ≡ true
    → list_any p (with_key keys key) ≡ true
put-keeps p key [] e = absurd cc
put-keeps p key (x ∷ xs) e = by (bytes_cmp key x) (put-keeps p key xs)
  where
    by : (o : Ordering) → (list_any p xs ≡ true → list_any p (with_key xs key) ≡ true)
        → list_any p (match_ordering o (key ∷ x ∷ xs) (x ∷ xs) (x ∷ with_key xs key)) ≡ true
    by Less h = right_true (p key) (list_any p (x ∷ xs)) e
    by Equal h = e
    by Greater h = either_kept (p x) (list_any p xs) (list_any p (with_key xs key)) e h

all-keep : (p : List ℕ → Bool) (texts keys : List (List ℕ)) → list_any p keys ≡ true
    → list_any p (fold (insert_key bytes_cmp) keys texts) ≡ true
all-keep p [] keys e = e
all-keep p (t ∷ ts) keys e = all-keep p ts (with_key keys t) (put-keeps p t keys e)

-- each text is there after all were put
pub all-there : (texts keys : List (List ℕ))
    → AllByRecursion (λ text. list_any (bytes_eq text) (fold (insert_key bytes_cmp) keys texts) ≡ true) texts
all-there [] keys = tt
all-there (t ∷ ts) keys = (all-keep (bytes_eq t) ts (with_key keys t) (put-has t keys), all-there ts (with_key keys t))

pub are_listed : (texts : List (List ℕ))
    → AllByRecursion (λ text. list_any (bytes_eq text) (distinct texts) ≡ true) texts
are_listed texts = all-there texts []

-- nothing else is put
put-all : (p : List ℕ → Bool) (key : List ℕ) (keys : List (List ℕ)) → list_all p keys ≡ true → p key ≡ true
    → list_all p (with_key keys key) ≡ true
put-all p key [] e q = both_from (p key) true q refl
put-all p key (x ∷ xs) e q = by (bytes_cmp key x) (put-all p key xs parts.1 q)
  where
    parts : (p x ≡ true) × (list_all p xs ≡ true)
    parts = both_true (p x) (list_all p xs) e

    by : (o : Ordering) → list_all p (with_key xs key) ≡ true
        → list_all p (match_ordering o (key ∷ x ∷ xs) (x ∷ xs) (x ∷ with_key xs key)) ≡ true
    by Less h = both_from (p key) (list_all p (x ∷ xs)) q e
    by Equal h = e
    by Greater h = both_from (p x) (list_all p (with_key xs key)) parts.0 h

all-pass : (p : List ℕ → Bool) (texts keys : List (List ℕ)) → list_all p keys ≡ true → list_all p texts ≡ true
    → list_all p (fold (insert_key bytes_cmp) keys texts) ≡ true
all-pass p [] keys e h = e
all-pass p (t ∷ ts) keys e h =
    let parts = both_true (p t) (list_all p ts) h in
    all-pass p ts (with_key keys t) (put-all p t keys e parts.0) parts.1

pub distinct-pass : (p : List ℕ → Bool) (texts : List (List ℕ)) → list_all p texts ≡ true
    → list_all p (distinct texts) ≡ true
distinct-pass p texts h = all-pass p texts [] refl h

-- they do not get fewer
put-longer : (key : List ℕ) (keys : List (List ℕ)) → length keys ≤ length (with_key keys key)
put-longer key [] = omega arith
put-longer key (x ∷ xs) = by (bytes_cmp key x) (put-longer key xs)
  where
    by : (o : Ordering) → length xs ≤ length (with_key xs key)
        → length (x ∷ xs) ≤ length (match_ordering o (key ∷ x ∷ xs) (x ∷ xs) (x ∷ with_key xs key))
    by Less h = omega arith
    by Equal h = omega arith
    by Greater h = omega (arith, h)

pub fold-longer : (texts keys : List (List ℕ)) → length keys ≤ length (fold (insert_key bytes_cmp) keys texts)
fold-longer [] keys = omega arith
fold-longer (t ∷ ts) keys = omega (arith, put-longer t keys, fold-longer ts (with_key keys t))

-- the code of a text stands for it
pub code-is : (keys : List (List ℕ)) (text : List ℕ) → list_any (bytes_eq text) keys ≡ true
    → (get_or keys (code_of keys text) [] ≡ text) × (code_of keys text < length keys)
code-is [] text e = absurd cc
code-is (x ∷ xs) text e = by (bytes_eq text x) refl e (code-is xs text)
  where
    by : (b : Bool) → bytes_eq text x ≡ b → (b || list_any (bytes_eq text) xs) ≡ true
        → (list_any (bytes_eq text) xs ≡ true → (get_or xs (code_of xs text) [] ≡ text) × (code_of xs text < length xs))
        → (get_or (x ∷ xs) (cond (not b) (1 + code_of xs text) 0) [] ≡ text)
        × (cond (not b) (1 + code_of xs text) 0 < length (x ∷ xs))
    by true same h later = (sym ((bytes_eq-Decides text x).0 same), omega arith)
    by false same h later =
        let r = later h in
        let next : 1 + code_of xs text ≡ suc (code_of xs text) = omega arith in
        (ap (λ (k : ℕ). get_or (x ∷ xs) k []) next ∙ r.0, omega (arith, r.1))

codes-are : (keys texts : List (List ℕ)) → AllByRecursion (λ text. list_any (bytes_eq text) keys ≡ true) texts
    → (map (text_at keys) (map (code_of keys) texts) ≡ texts)
codes-are keys [] h = refl
codes-are keys (t ∷ ts) h =
    ap (λ (x : List ℕ). x ∷ map (text_at keys) (map (code_of keys) ts)) (code-is keys t h.0).0
    ∙ ap (λ (l : List (List ℕ)). t ∷ l) (codes-are keys ts h.1)

pub codes-stand : (texts : List (List ℕ)) → map (text_at (distinct texts)) (codes_of texts) ≡ texts
codes-stand texts = codes-are (distinct texts) texts (are_listed texts)

codes-below : (keys texts : List (List ℕ)) → AllByRecursion (λ text. list_any (bytes_eq text) keys ≡ true) texts
    → list_all (λ code. ltb code (length keys)) (map (code_of keys) texts) ≡ true
codes-below keys [] h = refl
codes-below keys (t ∷ ts) h =
    both_from (ltb (code_of keys t) (length keys)) (list_all (λ code. ltb code (length keys))
    (map (code_of keys) ts)) (lt-ltb (code_of keys t) (length keys) (code-is keys t h.0).1) (codes-below keys ts h.1)

pub codes-stand-below : (texts : List (List ℕ))
    → list_all (λ code. ltb code (length (distinct texts))) (codes_of texts) ≡ true
codes-stand-below texts = codes-below (distinct texts) texts (are_listed texts)

-- each of some texts is among the distinct ones
all-there-by : {X : Type 0} (f : X → List ℕ) (xs : List X) (keys : List (List ℕ))
    → AllByRecursion (λ x. list_any (bytes_eq (f x)) (fold (insert_key bytes_cmp) keys (map f xs)) ≡ true) xs
all-there-by f [] keys = tt
all-there-by f (x ∷ xs) keys =
    let here = all-keep (bytes_eq (f x)) (map f xs) (with_key keys (f x)) (put-has (f x) keys) in
    (here, all-there-by f xs (with_key keys (f x)))

pub listed-by : {X : Type 0} (f : X → List ℕ) (xs : List X)
    → All (λ x. list_any (bytes_eq (f x)) (distinct (map f xs)) ≡ true) xs
listed-by f xs =
    All-from_recursion (λ x. list_any (bytes_eq (f x)) (distinct (map f xs)) ≡ true) xs (all-there-by f xs [])

-- a step of the search for a code
pub search-on : (keys : List (List ℕ)) (text : List ℕ) (i : ℕ) → i < length keys
    → bytes_eq text (get_or keys i []) ≡ false
    → (code_of (drop i keys) text ≡ 1 + code_of (drop (i + 1) keys) text)
    × (list_any (bytes_eq text) (drop i keys) ≡ list_any (bytes_eq text) (drop (i + 1) keys))
search-on keys text i lt other = rw (drop_more keys i [] lt, other) (refl, refl)

pub search-ends : (keys : List (List ℕ)) (text : List ℕ) (i : ℕ) → i < length keys
    → bytes_eq text (get_or keys i []) ≡ true → code_of (drop i keys) text ≡ 0
search-ends keys text i lt same = rw (drop_more keys i [] lt, same) refl

-- what is put by one text more
pub put-one-more : {X : Type 0} (f : X → List ℕ) (keys : List (List ℕ)) (xs : List X) (i : ℕ) (d : X) → i < length xs
    → fold (insert_key bytes_cmp) keys (map f (take (i + 1) xs))
    ≡ insert_key bytes_cmp (fold (insert_key bytes_cmp) keys (map f (take i xs))) (f (get_or xs i d))
put-one-more f keys xs i d lt =
    ap (fold (insert_key bytes_cmp) keys) (map_more f xs i d lt)
    ∙ fold_push (insert_key bytes_cmp) keys (map f (take i xs)) (f (get_or xs i d))

pub put-no-fewer : {X : Type 0} (f : X → List ℕ) (keys : List (List ℕ)) (xs : List X) (i : ℕ)
    → length (fold (insert_key bytes_cmp) keys (map f (take i xs)))
    ≤ length (fold (insert_key bytes_cmp) keys (map f xs))
put-no-fewer f keys xs i =
    let parts : map f xs ≡ map f (take i xs) ++ map f (drop i xs) = ap (map f) (sym (take-append-drop i xs))
    ∙ map-append f (take i xs) (drop i xs) in
    rw (ap (fold (insert_key bytes_cmp) keys) parts ∙ fold-append (insert_key bytes_cmp) keys (map f (take i xs))
    (map f (drop i xs)))
    (fold-longer (map f (drop i xs)) (fold (insert_key bytes_cmp) keys (map f (take i xs))))

-- what comes among the distinct ones by one text more
pub distinct-more : {X : Type 0} (f : X → List ℕ) (xs : List X) (i : ℕ) (d : X) → i < length xs
    → distinct (map f (take (i + 1) xs)) ≡ insert_key bytes_cmp (distinct (map f (take i xs))) (f (get_or xs i d))
distinct-more f xs i d lt =
    ap distinct (map_more f xs i d lt)
    ∙ fold_push (insert_key bytes_cmp) [] (map f (take i xs)) (f (get_or xs i d))

-- all have as many as the first have
pub no-fewer : {X : Type 0} (f : X → List ℕ) (xs : List X) (i : ℕ)
    → length (distinct (map f (take i xs))) ≤ length (distinct (map f xs))
no-fewer f xs i =
    let parts : map f xs ≡ map f (take i xs) ++ map f (drop i xs) = ap (map f) (sym (take-append-drop i xs))
    ∙ map-append f (take i xs) (drop i xs) in
    rw (ap distinct parts ∙ fold-append (insert_key bytes_cmp) [] (map f (take i xs)) (map f (drop i xs)))
    (fold-longer (map f (drop i xs)) (distinct (map f (take i xs))))

-- the texts of keys that are put by their texts
pub map-put : {X : Type 0} (f : X → List ℕ) (keys : List X) (key : X)
    → map f (insert_key (λ x y. bytes_cmp (f x) (f y)) keys key) ≡ insert_key bytes_cmp (map f keys) (f key)
map-put f [] key = refl
map-put {X = X} f (x ∷ xs) key =
    by (bytes_cmp (f key) (f x))
    ∙ ap (λ l. match_ordering (bytes_cmp (f key) (f x)) (f key ∷ f x ∷ map f xs) (f x ∷ map f xs) (f x ∷ l))
    (map-put f xs key)
  where
    more : List X
    more = insert_key (λ x y. bytes_cmp (f x) (f y)) xs key

    by : (o : Ordering) → map f (match_ordering o (key ∷ x ∷ xs) (x ∷ xs) (x ∷ more))
        ≡ match_ordering o (f key ∷ f x ∷ map f xs) (f x ∷ map f xs) (f x ∷ map f more)
    by Less = refl
    by Equal = refl
    by Greater = refl

-- one that fails the test
pub one-fails : {X : Type 0} (p : X → Bool) (xs : List X) (i : ℕ) (d : X) → i < length xs
    → p (get_or xs i d) ≡ false → list_all p xs ≡ false
one-fails p [] i d lt e = absurd (omega (arith, lt))
one-fails p (x ∷ xs) zero d lt e = rw e refl
one-fails p (x ∷ xs) (suc i) d lt e = second_false (p x) (list_all p xs) (one-fails p xs i d (omega (arith, lt)) e)

pub one-text-fails : {X : Type 0} (f : X → List ℕ) (p : List ℕ → Bool) (xs : List X) (i : ℕ) (d : X) → i < length xs
    → p (f (get_or xs i d)) ≡ false → list_all p (map f xs) ≡ false
one-text-fails f p xs i d lt e = list_all-map p f xs ∙ one-fails (λ x. p (f x)) xs i d lt e

pub one-text-more : {X : Type 0} (f : X → List ℕ) (p : List ℕ → Bool) (xs : List X) (i : ℕ) (d : X) → i < length xs
    → list_all p (map f (take i xs)) ≡ true → p (f (get_or xs i d)) ≡ true
    → list_all p (map f (take (i + 1) xs)) ≡ true
one-text-more f p xs i d lt all one =
    ap (list_all p) (map_more f xs i d lt) ∙ list_all-append p (map f (take i xs)) (f (get_or xs i d) ∷ [])
    ∙ both_from (list_all p (map f (take i xs))) (list_all p (f (get_or xs i d) ∷ [])) all
    (both_from (p (f (get_or xs i d))) true one refl)

pub first_false : (a b : Bool) → a ≡ false → (a && b) ≡ false
first_false true b e = absurd cc
first_false false b e = refl

-- what a code stands for
pub coded-is : (texts : List (List ℕ)) (codes : List ℕ) (i : ℕ) → i < length codes
    → list_all (λ code. ltb code (length texts)) codes ≡ true
    → (slice_get (map (text_at texts) codes) i ≡ Some (get_or texts (get_or codes i 0) []))
    × (get_or codes i 0 < length texts)
coded-is texts [] i lt e = absurd (omega (arith, lt))
coded-is texts (code ∷ codes) zero lt e =
    let p = both_true (ltb code (length texts)) (list_all (λ code. ltb code (length texts)) codes) e in
    (refl, ltb-true code (length texts) p.0)
coded-is texts (code ∷ codes) (suc i) lt e =
    let p = both_true (ltb code (length texts)) (list_all (λ code. ltb code (length texts)) codes) e in
    coded-is texts codes i (omega (arith, lt)) p.1

-- an element that was read, whatever stands past the end
pub read-as : (xs : List (List ℕ)) (i : ℕ) (x : List ℕ) → i < length xs → x ≡ get_or xs i x → get_or xs i [] ≡ x
read-as xs i x lt e =
    some_is (get_or xs i []) x (sym (slice_get-get_or xs i [] lt) ∙ slice_get-get_or xs i x lt
    ∙ ap (λ (y : List ℕ). Some y) (sym e))

-- keys that hold the distinct texts so far, with one more put
