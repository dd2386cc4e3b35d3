-- Words whose order is open.
use Rattle.std.proofs.Common.{◌≡◌, ℕ, ◌+◌, Bool, true, false, List, [], ◌∷◌, Bor, length, inl, inr, refl}
use Rattle.std.proofs.Common.{sym, ap, ◌∙◌, arith}
use Rattle.std.specs.Prelude.{◌||◌, bytes_eq}
use Rattle.std.specs.BTreeSet.{insert_key}
use Rattle.std.specs.List.{AllByRecursion, IsDistinct, flat_map, fold, list_any}
use Rattle.std.specs.Ordering.{match_ordering}
use Rattle.std.specs.declared.cmp.Ordering.{Ordering}
use Rattle.std.specs.declared.cmp.Ordering.TheVariants.{Less, Equal, Greater}
use Rattle.std.proofs.lemmas.Bool.{both_ways, cases_Bool}
use Rattle.std.proofs.lemmas.List.Concat.{flat_map-cons}
use Rattle.std.proofs.lemmas.List.Folds.{list_any-append}
use Rattle.std.proofs.lemmas.Map.Keys.{IsDistinct-head, IsDistinct-tail}
use Rattle.std.proofs.lemmas.Map.Lookups.{exact_bytes}
use Rattle.std.proofs.lemmas.Slice.Eq.{bytes_eq-Decides}
use Rattle.block_model.specs.Distinct.{HaveSameTexts, distinct, is_listed}
use Rattle.block_model.proofs.Distinct.{itself, right_true}
use Rattle.block_model.proofs.Rising.{distinct-rising}
use Rattle.block_model.proofs.Same.{distinct-listed, put-listed, same-rising}
use Rattle.log_model.specs.Field.{bytes_cmp}
use Rattle.token_bloom.specs.Filter.{empty_filter, with_word}
use Rattle.token_bloom.proofs.Commutes.{word-swap}
use Rattle.word_filter.specs.Words.{column_words, filter_of, words_in}

abbrev pub text_of : Bor (List ℕ) → List ℕ
text_of t = t.now

-- ---- which texts are there

pub turned : (a b : List ℕ) → bytes_eq a b ≡ bytes_eq b a
turned a b =
    elim (cases_Bool (bytes_eq a b)) [
      | inl e ↦ e ∙ sym ((bytes_eq-Decides b a).1 (sym ((bytes_eq-Decides a b).0 e)))
      | inr e ↦ elim (cases_Bool (bytes_eq b a)) [
        | inl f ↦ absurd (both_ways (bytes_eq a b) e ((bytes_eq-Decides a b).1 (sym ((bytes_eq-Decides b a).0 f))))
        | inr f ↦ e ∙ sym f
      ]
    ]

-- Texts that are the same, however often and in whatever order, are the same once each and in order.
pub same-distinct : (texts others : List (List ℕ)) → HaveSameTexts texts others → distinct texts ≡ distinct others
same-distinct texts others h =
    same-rising (distinct texts) (distinct others) (distinct-rising texts) (distinct-rising others)
    (λ text. distinct-listed text texts ∙ h text ∙ sym (distinct-listed text others))

-- ---- a filter to which words are added in any order

added-late : (filter word : List ℕ) (words : List (List ℕ))
    → fold with_word (with_word filter word) words ≡ with_word (fold with_word filter words) word
added-late filter word [] = refl
added-late filter word (w ∷ ws) =
    ap (λ (f : List ℕ). fold with_word f ws) (word-swap filter word w) ∙ added-late (with_word filter w) word ws

abbrev with_key : List (List ℕ) → List ℕ → List (List ℕ)
with_key keys key = insert_key bytes_cmp keys key

no-either : (a b : Bool) → (a || b) ≡ false → (a ≡ false) × (b ≡ false)
no-either true b e = absurd cc
no-either false b e = (refl, e)

neither : (a b : Bool) → a ≡ false → b ≡ false → (a || b) ≡ false
neither true b p q = absurd cc
neither false b p q = q

put-added : (filter key : List ℕ) (keys : List (List ℕ)) → is_listed keys key ≡ false
    → (fold with_word filter (with_key keys key) ≡ fold with_word (with_word filter key) keys)
    × (length (with_key keys key) ≡ length keys + 1)
put-added filter key [] e = (refl, refl)
put-added filter key (k ∷ ks) e =
    by (bytes_cmp key k) refl (put-added (with_word filter k) key ks (no-either (bytes_eq key k)
    (is_listed ks key) e).1)
  where
    by : (o : Ordering) → bytes_cmp key k ≡ o
        → (fold with_word (with_word filter k) (with_key ks key)
        ≡ fold with_word (with_word (with_word filter k) key) ks) × (length (with_key ks key) ≡ length ks + 1)
        → (fold with_word filter (match_ordering o (key ∷ k ∷ ks) (k ∷ ks) (k ∷ with_key ks key))
        ≡ fold with_word (with_word filter key) (k ∷ ks))
        × (length (match_ordering o (key ∷ k ∷ ks) (k ∷ ks) (k ∷ with_key ks key)) ≡ length (k ∷ ks) + 1)
    by Less c h = (refl, omega arith)
    by Equal c h =
        let same : bytes_eq key k ≡ true = (bytes_eq-Decides key k).1 (exact_bytes key k c) in
        absurd (both_ways (bytes_eq key k) (no-either (bytes_eq key k) (is_listed ks key) e).0 same)
    by Greater c h =
        (h.0 ∙ ap (λ (f : List ℕ). fold with_word f ks) (word-swap filter k key), omega (arith, h.1))

-- none of the texts is among the keys
abbrev AreNew : List (List ℕ) → List (List ℕ) → Type 0
AreNew keys texts = AllByRecursion (λ text. is_listed keys text ≡ false) texts

still-new : (keys : List (List ℕ)) (key : List ℕ) (texts : List (List ℕ)) → AreNew keys texts
    → AllByRecursion (λ text. bytes_eq key text ≡ false) texts → AreNew (with_key keys key) texts
still-new keys key [] h o = tt
still-new keys key (t ∷ ts) h o =
    let one : is_listed (with_key keys key) t ≡ false = put-listed t key keys
    ∙ neither (bytes_eq t key) (is_listed keys t) (turned t key ∙ o.0) h.0 in
    (one, still-new keys key ts h.1 o.1)

all-added : (texts keys : List (List ℕ)) (filter : List ℕ) → IsDistinct bytes_eq texts → AreNew keys texts
    → (fold with_word filter (fold (insert_key bytes_cmp) keys texts)
    ≡ fold with_word (fold with_word filter keys) texts)
    × (length (fold (insert_key bytes_cmp) keys texts) ≡ length keys + length texts)
all-added [] keys filter d h = (refl, omega arith)
all-added (t ∷ ts) keys filter d h =
    let more = all-added ts (with_key keys t) filter (IsDistinct-tail bytes_eq t ts d) (still-new keys t ts h.1
    (IsDistinct-head bytes_eq t ts d)) in
    let put = put-added filter t keys h.0 in (
      more.0 ∙ ap (λ (f : List ℕ). fold with_word f ts) (put.0 ∙ added-late filter t keys),
      omega (arith, more.1, put.1),
    )

none-listed : (texts : List (List ℕ)) → AreNew [] texts
none-listed [] = tt
none-listed (t ∷ ts) = (refl, none-listed ts)

-- The filter of texts that are there once each is that of the texts in order.
pub once-added : (texts : List (List ℕ)) (filter : List ℕ) → IsDistinct bytes_eq texts
    → (fold with_word filter texts ≡ fold with_word filter (distinct texts))
    × (length (distinct texts) ≡ length texts)
once-added texts filter d =
    let all = all-added texts [] filter d (none-listed texts) in (sym all.0, omega (arith, all.1))

-- ---- values of which each is among others

passes-listed : (p : List ℕ → Bool) (texts : List (List ℕ)) (text : List ℕ) → is_listed texts text ≡ true
    → p text ≡ true → list_any p texts ≡ true
passes-listed p [] text e h = absurd cc
passes-listed p (t ∷ ts) text e h = by (bytes_eq text t) refl e (passes-listed p ts text)
  where
    by : (b : Bool) → bytes_eq text t ≡ b → (b || is_listed ts text) ≡ true
        → (is_listed ts text ≡ true → p text ≡ true → list_any p ts ≡ true) → (p t || list_any p ts) ≡ true
    by true same k later =
        let here : p t ≡ true = ap p (sym ((bytes_eq-Decides text t).0 same)) ∙ h in
        rw here refl
    by false same k later = right_true (p t) (list_any p ts) (later k h)

abbrev AreIn : List (List ℕ) → List (List ℕ) → Type 0
AreIn texts others = (text : List ℕ) → is_listed texts text ≡ true → is_listed others text ≡ true

any-in : (p : List ℕ → Bool) (texts others : List (List ℕ)) → AreIn texts others → list_any p texts ≡ true
    → list_any p others ≡ true
any-in p [] others h e = absurd cc
any-in p (t ∷ ts) others h e = by (p t) refl e (any-in p ts others (λ text k. h text (right_true (bytes_eq text t)
    (is_listed ts text) k)))
  where
    by : (b : Bool) → p t ≡ b → (b || list_any p ts) ≡ true → (list_any p ts ≡ true → list_any p others ≡ true)
        → list_any p others ≡ true
    by true here k later =
        let first : is_listed (t ∷ ts) t ≡ true = rw (itself t) refl in
        passes-listed p others t (h t first) here
    by false here k later = later k

same-test : (a b : Bool) → (a ≡ true → b ≡ true) → (b ≡ true → a ≡ true) → a ≡ b
same-test true b f g = sym (f refl)
same-test false true f g = g refl
same-test false false f g = refl

any-same : (p : List ℕ → Bool) (texts others : List (List ℕ)) → HaveSameTexts texts others
    → list_any p texts ≡ list_any p others
any-same p texts others h =
    same-test (list_any p texts) (list_any p others) (any-in p texts others (λ text k. sym (h text) ∙ k)) (any-in p
    others texts (λ text k. h text ∙ k))

any-flat : (f : List ℕ → List (List ℕ)) (texts : List (List ℕ)) (text : List ℕ)
    → is_listed (flat_map f texts) text ≡ list_any (λ other. is_listed (f other) text) texts
any-flat f [] text = refl
any-flat f (t ∷ ts) text =
    ap (λ (l : List (List ℕ)). is_listed l text) (flat_map-cons f t ts)
    ∙ list_any-append (bytes_eq text) (f t) (flat_map f ts)
    ∙ ap (λ (b : Bool). is_listed (f t) text || b) (any-flat f ts text)

same-words : (texts others : List (List ℕ)) → HaveSameTexts texts others → column_words texts ≡ column_words others
same-words texts others h =
    same-distinct (flat_map words_in texts) (flat_map words_in others) (λ text. any-flat words_in texts text
    ∙ any-same (λ other. is_listed (words_in other) text) texts others h ∙ sym (any-flat words_in others text))

-- Values of which each is among others, and these among them, have one filter.
pub same-filter : (texts others : List (List ℕ)) → HaveSameTexts texts others → filter_of texts ≡ filter_of others
same-filter texts others h =
    ap (λ (words : List (List ℕ)). fold with_word (empty_filter (length words)) words) (same-words texts others h)
