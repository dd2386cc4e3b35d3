-- Words with their hashes, sorted, of which equal neighbours were dropped.
use Rattle.std.proofs.Common.{◌≡◌, ℕ, Bool, true, false, cond, List, [], ◌∷◌, ◌++◌, Bor, map, take, length, ◌+◌, ◌<◌}
use Rattle.std.proofs.Common.{None, Option, Some, get_or, inl, inr, refl, sym, ap, ◌∙◌, arith}
use Rattle.std.specs.Prelude.{◌||◌, ◌&&◌, ◌==◌, bytes_eq}
use Rattle.std.specs.BTreeSet.{insert_key}
use Rattle.std.specs.Cmp.{IsTotalOrder, both_tied, unsigned_ties}
use Rattle.std.specs.Cmp.Lexicographic.{on_texts, slice_cmp, texts_ties}
use Rattle.std.specs.List.{All, AllByRecursion, IsDistinct, dedup, dedup_from, fold, list_all, list_any}
use Rattle.std.specs.List.Sorted.{IsPermutation, IsSorted}
use Rattle.std.specs.Ordering.{eq_by_cmp, nat_cmp, ordering_then}
use Rattle.std.specs.declared.cmp.Ordering.{Ordering}
use Rattle.std.proofs.lemmas.Bool.{both_ways, cases_Bool}
use Rattle.std.proofs.lemmas.Bool.Decides.{nat_tests}
use Rattle.std.proofs.lemmas.Cmp.{nat_cmp_total, on_total, then_total}
use Rattle.std.proofs.lemmas.List.{map-append, map_more}
use Rattle.std.proofs.lemmas.List.Elements.{recursion_from_All}
use Rattle.std.proofs.lemmas.List.Folds.{list_any-append}
use Rattle.std.proofs.lemmas.List.Kept.{IsStrictlySortedBy-dedup}
use Rattle.std.proofs.lemmas.List.Sorted.{IsPermutation-map, list_any-IsPermutation}
use Rattle.std.proofs.lemmas.List.Sums.{fold_push}
use Rattle.std.proofs.lemmas.Map.Keys.{IsDistinct-from_sorted}
use Rattle.std.proofs.lemmas.Slice.Eq.{bytes_eq-Decides}
use Rattle.block_model.specs.Distinct.{HaveSameTexts, distinct, is_listed}
use Rattle.block_model.proofs.Distinct.{itself, right_true}
use Rattle.byte_format.proofs.Cases.{both_true}
use Rattle.log_model.specs.Field.{bytes_cmp}
use Rattle.token_bloom.specs.Bits.{fnv}
use Rattle.token_bloom.specs.Filter.{with_hash, with_word}
use Rattle.word_filter.specs.Words.{Remembers, is_there}
use Rattle.word_filter.proofs.Sets.{same-distinct}
use Rattle.word_filter.proofs.There.{put-there, there-kept}

-- a word with its hash
abbrev pub Hashed : Type 0
Hashed = ℕ × Bor (List ℕ)

abbrev pub text_in : Hashed → List ℕ
text_in word = word.1.now

abbrev pub HasItsHash : Hashed → Type 0
HasItsHash word = word.0 ≡ fnv word.1.now

-- ---- one word more

pub put-last : (old words : List Hashed) (word : Hashed) → HaveSameTexts (map text_in words) (map text_in old)
    → distinct (map text_in (words ++ word ∷ [])) ≡ insert_key bytes_cmp (distinct (map text_in old)) word.1.now
put-last old words word same =
    ap distinct (map-append text_in words (word ∷ []))
    ∙ fold_push (insert_key bytes_cmp) [] (map text_in words) word.1.now
    ∙ ap (λ texts. insert_key bytes_cmp texts word.1.now) (same-distinct (map text_in words) (map text_in old) same)

pub add-more : (filter : List ℕ) (words : List Hashed) (i : ℕ) (d : Hashed) → i < length words
    → All HasItsHash words
    → with_hash (fold with_word filter (map text_in (take i words))) (get_or words i d).0
    ≡ fold with_word filter (map text_in (take (i + 1) words))
add-more filter words i d lt hs =
    ap (with_hash (fold with_word filter (map text_in (take i words)))) (hs i d lt)
    ∙ sym (fold_push with_word filter (map text_in (take i words)) (get_or words i d).1.now)
    ∙ sym (ap (fold with_word filter) (map_more text_in words i d lt))

either-first : (a b : Bool) → a ≡ true → (a || b) ≡ true
either-first true b e = refl
either-first false b e = absurd cc

-- what was there stays there
kept-there : (old words : List Hashed) (word : Hashed) (slots : List (List ℕ))
    → HaveSameTexts (map text_in words) (map text_in old) → list_all (is_there (map text_in old)) slots ≡ true
    → list_all (is_there (map text_in (words ++ word ∷ []))) slots ≡ true
kept-there old words word slots same e =
    there-kept (map text_in old) (map text_in (words ++ word ∷ [])) slots (λ text h.
    ap (list_any (bytes_eq text)) (map-append text_in words (word ∷ []))
    ∙ list_any-append (bytes_eq text) (map text_in words) (word.1.now ∷ [])
    ∙ either-first (list_any (bytes_eq text) (map text_in words)) (list_any (bytes_eq text) (word.1.now ∷ []))
    (same text ∙ h)) e

pub kept-remembered : (old words : List Hashed) (word : Hashed) (recent : Option (List (List ℕ)))
    → HaveSameTexts (map text_in words) (map text_in old) → Remembers (map text_in old) recent
    → Remembers (map text_in (words ++ word ∷ [])) recent
kept-remembered old words word None same h = h
kept-remembered old words word (Some slots) same h = kept-there old words word slots same h

-- and so is the word
pub last-there : (words : List Hashed) (word : Hashed)
    → is_there (map text_in (words ++ word ∷ [])) word.1.now ≡ true
last-there words word =
    put-there (map text_in (words ++ word ∷ [])) word.1.now (ap (list_any (bytes_eq word.1.now))
    (map-append text_in words (word ∷ []))
    ∙ list_any-append (bytes_eq word.1.now) (map text_in words) (word.1.now ∷ [])
    ∙ right_true (list_any (bytes_eq word.1.now) (map text_in words)) (list_any (bytes_eq word.1.now) (word.1.now ∷ []))
    (either-first (bytes_eq word.1.now word.1.now) false (itself word.1.now)))

-- ---- the order

abbrev pub word_cmp : Hashed → Hashed → Ordering
word_cmp x y = ordering_then (nat_cmp x.0 y.0) (slice_cmp nat_cmp x.1.now y.1.now)

abbrev pub same_word : Hashed → Hashed → Bool
same_word x y = (x.0 == y.0) && bytes_eq x.1.now y.1.now

word_total : IsTotalOrder word_cmp
word_total = then_total (on_total (λ (w : Hashed). w.0) nat_cmp_total) (on_texts (λ (w : Hashed). w.1.now))

ties : (x y : Hashed) → same_word x y ≡ eq_by_cmp word_cmp x y
ties x y =
    both_tied (x.0 == y.0) (bytes_eq x.1.now y.1.now) (nat_cmp x.0 y.0) (slice_cmp nat_cmp x.1.now y.1.now)
    (unsigned_ties x.0 y.0) (texts_ties x.1.now y.1.now)

-- ---- no text is left out

either-once : (a b c : Bool) → a ≡ b → (b || c) ≡ (b || (a || c))
either-once true true c e = refl
either-once true false c e = absurd cc
either-once false true c e = absurd cc
either-once false false c e = refl

same-text : (x y : Hashed) → same_word x y ≡ true → x.1.now ≡ y.1.now
same-text x y e =
    (bytes_eq-Decides x.1.now y.1.now).0 (both_true (x.0 == y.0) (bytes_eq x.1.now y.1.now) e).1

kept-listed : (text : List ℕ) (kept : Hashed) (words : List Hashed)
    → is_listed (map text_in (dedup_from same_word kept words)) text ≡ is_listed (map text_in (kept ∷ words)) text
kept-listed text kept [] = refl
kept-listed text kept (word ∷ words) =
    by (same_word word kept) refl (kept-listed text kept words) (kept-listed text word words)
  where
    by : (b : Bool) → same_word word kept ≡ b
        → is_listed (map text_in (dedup_from same_word kept words)) text ≡ is_listed (map text_in (kept ∷ words)) text
        → is_listed (map text_in (dedup_from same_word word words)) text ≡ is_listed (map text_in (word ∷ words)) text
        → is_listed (map text_in (cond b (dedup_from same_word kept words) (kept ∷ dedup_from same_word word words)))
        text ≡ (bytes_eq text kept.1.now || (bytes_eq text word.1.now || is_listed (map text_in words) text))
    by true e here later =
        here ∙ either-once (bytes_eq text word.1.now) (bytes_eq text kept.1.now) (is_listed (map text_in words) text)
        (ap (bytes_eq text) (same-text word kept e))
    by false e here later = ap (λ (b : Bool). bytes_eq text kept.1.now || b) later

dedup-listed : (text : List ℕ) (words : List Hashed)
    → is_listed (map text_in (dedup same_word words)) text ≡ is_listed (map text_in words) text
dedup-listed text [] = refl
dedup-listed text (word ∷ words) = kept-listed text word words

pub same-left : (words sorted : List Hashed) → IsPermutation words sorted
    → HaveSameTexts (map text_in (dedup same_word sorted)) (map text_in words)
same-left words sorted moved text =
    dedup-listed text sorted
    ∙ sym (list_any-IsPermutation (bytes_eq text) (map text_in words) (map text_in sorted) (IsPermutation-map text_in
    words sorted moved))

-- ---- no text is there twice

differ : (x y : Hashed) → HasItsHash x → HasItsHash y → eq_by_cmp word_cmp x y ≡ false
    → bytes_eq x.1.now y.1.now ≡ false
differ x y h k d =
    elim (cases_Bool (bytes_eq x.1.now y.1.now)) [
      | inl e ↦
          let hash : x.0 ≡ y.0 = h ∙ ap fnv ((bytes_eq-Decides x.1.now y.1.now).0 e) ∙ sym k in
          absurd (both_ways (eq_by_cmp word_cmp x y) d (sym (ties x y) ∙ both (x.0) (y.0) (bytes_eq x.1.now y.1.now)
          hash e))
      | inr e ↦ e
    ]
  where
    both : (m n : ℕ) (b : Bool) → m ≡ n → b ≡ true → ((m == n) && b) ≡ true
    both m n b p q = grind (arith, nat_tests)

all-differ : (x : Hashed) (words : List Hashed) → HasItsHash x → AllByRecursion HasItsHash words
    → AllByRecursion (λ y. eq_by_cmp word_cmp x y ≡ false) words
    → AllByRecursion (λ text. bytes_eq x.1.now text ≡ false) (map text_in words)
all-differ x [] h hs d = tt
all-differ x (y ∷ words) h hs d = (differ x y h hs.0 d.0, all-differ x words h hs.1 d.1)

texts-apart : (words : List Hashed) → AllByRecursion HasItsHash words → IsDistinct (eq_by_cmp word_cmp) words
    → IsDistinct bytes_eq (map text_in words)
unfolding IsDistinct
texts-apart [] hs d = tt
texts-apart (x ∷ words) hs d = (all-differ x words hs.0 hs.1 d.0, texts-apart words hs.1 d.1)

pub once-left : (sorted : List Hashed) → IsSorted word_cmp sorted → All HasItsHash (dedup same_word sorted)
    → IsDistinct bytes_eq (map text_in (dedup same_word sorted))
once-left sorted up hs =
    texts-apart (dedup same_word sorted) (recursion_from_All HasItsHash (dedup same_word sorted) hs)
    (IsDistinct-from_sorted word_cmp (dedup same_word sorted) (IsStrictlySortedBy-dedup word_total ties sorted up))
