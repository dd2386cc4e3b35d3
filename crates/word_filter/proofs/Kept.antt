-- Each word of the values may be in their filter.
use Rattle.std.proofs.Common.{◌≡◌, ℕ, ◌<◌, Bool, true, false, List, [], ◌∷◌, ◌++◌, length, refl, sym, ap}
use Rattle.std.proofs.Common.{subst, ◌∙◌, arith}
use Rattle.std.specs.Prelude.{◌||◌, bytes_eq}
use Rattle.std.specs.List.{All, AllByRecursion, flat_map, fold, list_any}
use Rattle.std.proofs.lemmas.List.{length-replicate}
use Rattle.std.proofs.lemmas.List.Concat.{flat_map-cons}
use Rattle.std.proofs.lemmas.List.Elements.{All-from_recursion}
use Rattle.std.proofs.lemmas.Slice.Eq.{bytes_eq-Decides}
use Rattle.block_model.specs.Distinct.{distinct}
use Rattle.block_model.proofs.Distinct.{are_listed}
use Rattle.token_bloom.specs.Filter.{empty_filter, may_have, with_word, words_for}
use Rattle.token_bloom.proofs.Added.{word-added, word-kept}
use Rattle.word_filter.specs.Words.{HasWords, LeavesNoneOut, filter_of, words_in}
use Rattle.word_filter.proofs.FilterLaws.{word-length}

-- a word that may be there still may when others are added
words-kept : (filter other : List ℕ) (words : List (List ℕ)) → may_have filter other ≡ true
    → may_have (fold with_word filter words) other ≡ true
words-kept filter other [] h = h
words-kept filter other (word ∷ words) h =
    words-kept (with_word filter word) other words (word-kept filter word other h)

-- each word that is added may be there
words-added : (filter word : List ℕ) (words : List (List ℕ)) → 0 < length filter
    → list_any (bytes_eq word) words ≡ true → may_have (fold with_word filter words) word ≡ true
words-added filter word [] some e = absurd cc
words-added filter word (first ∷ words) some e =
    by (bytes_eq word first) refl e (λ h. words-added (with_word filter first) word words (omega (
      arith,
      word-length filter first,
      some,
    )) h)
  where
    by : (b : Bool) → bytes_eq word first ≡ b → (b || list_any (bytes_eq word) words) ≡ true
        → (list_any (bytes_eq word) words ≡ true → may_have (fold with_word (with_word filter first) words) word ≡ true)
        → may_have (fold with_word (with_word filter first) words) word ≡ true
    by true same h later =
        let equal : first ≡ word = sym ((bytes_eq-Decides word first).0 same) in
        words-kept (with_word filter first) word words (ap (λ (w : List ℕ). may_have (with_word filter w) word) equal
        ∙ word-added filter word some)
    by false same h later = later h

-- where there is a word, there are bits
some-bits : (word : List ℕ) (words : List (List ℕ)) → list_any (bytes_eq word) words ≡ true
    → 0 < length (empty_filter (length words))
some-bits word [] e = absurd cc
some-bits word (first ∷ words) e =
    omega (arith, length-replicate {A = ℕ} (words_for (length (first ∷ words))) 0)

word-there : (words : List (List ℕ)) (word : List ℕ) → list_any (bytes_eq word) words ≡ true
    → may_have (fold with_word (empty_filter (length words)) words) word ≡ true
word-there words word e = words-added (empty_filter (length words)) word words (some-bits word words e) e

abbrev MayHave : List ℕ → List ℕ → Type 0
MayHave filter word = may_have filter word ≡ true

all-there : (all : List (List ℕ)) (words : List (List ℕ))
    → AllByRecursion (λ word. list_any (bytes_eq word) (distinct all) ≡ true) words
    → AllByRecursion (MayHave (fold with_word (empty_filter (length (distinct all))) (distinct all))) words
all-there all [] h = tt
all-there all (word ∷ words) h = (word-there (distinct all) word h.0, all-there all words h.1)

front-of : (p : List ℕ → Type 0) (xs ys : List (List ℕ)) → AllByRecursion p (xs ++ ys) → AllByRecursion p xs
front-of p [] ys h = tt
front-of p (x ∷ xs) ys h = (h.0, front-of p xs ys h.1)

back-of : (p : List ℕ → Type 0) (xs ys : List (List ℕ)) → AllByRecursion p (xs ++ ys) → AllByRecursion p ys
back-of p [] ys h = h
back-of p (x ∷ xs) ys h = back-of p xs ys h.1

by-value : (filter : List ℕ) (values : List (List ℕ)) → AllByRecursion (MayHave filter) (flat_map words_in values)
    → AllByRecursion (HasWords filter) values
by-value filter [] h = tt
by-value filter (value ∷ values) h =
    let parts : AllByRecursion (MayHave filter) (words_in value ++ flat_map words_in values) =
    subst (AllByRecursion (MayHave filter)) (flat_map-cons words_in value values) h in (
      All-from_recursion (MayHave filter) (words_in value) (front-of (MayHave filter) (words_in value) (flat_map
          words_in values) parts),
      by-value filter values (back-of (MayHave filter) (words_in value) (flat_map words_in values) parts),
    )

pub leaves_none_out : LeavesNoneOut
leaves_none_out values =
    let all = flat_map words_in values in
    All-from_recursion (HasWords (filter_of values)) values (by-value (filter_of values) values (all-there
    (flat_map words_in values) (flat_map words_in values) (are_listed (flat_map words_in values))))

pub has_words : (filter : List ℕ) (values : List (List ℕ)) → filter ≡ filter_of values
    → All (HasWords filter) values
has_words filter values e = rw e (leaves_none_out values)
