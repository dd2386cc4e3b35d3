-- The words of texts.
use Rattle.std.proofs.Common.{◌≡◌, ℕ, suc, ◌<◌, Bool, true, false, cond, ltb, List, [], ◌∷◌, ◌++◌, length, map, filter}
use Rattle.std.proofs.Common.{get_or, refl, ap, subst, ◌∙◌, arith}
use Rattle.std.specs.List.{All, AllByRecursion, Any, slice_range}
use Rattle.std.proofs.lemmas.Bool.{ltb-true}
use Rattle.std.proofs.lemmas.List.{get_or-map, length-map}
use Rattle.std.proofs.lemmas.List.Elements.{All-from_recursion}
use Rattle.word_tokens.specs.Runs.{IsOneOfWords, words_of}
use Rattle.word_tokens.proofs.WordRuns.{IsWord}
use Rattle.word_filter.proofs.WordLaws.{are-words}

-- the text of a word that stands there
abbrev pub text_at : List ℕ → ℕ × ℕ → List ℕ
text_at text place = slice_range text place.0 place.1

-- the texts of all words, and of those that end before the text does
abbrev pub texts_at : List ℕ → List (ℕ × ℕ) → List (List ℕ)
texts_at text places = map (text_at text) places

abbrev pub ended_at : List ℕ → List (ℕ × ℕ) → List (List ℕ)
ended_at text places = map (text_at text) (filter (λ (place : ℕ × ℕ). ltb place.1 (length text)) places)

-- What each text has that stands at one of the places, all of them have.
pub all-texts : (P : List ℕ → Type 0) (text : List ℕ) (places : List (ℕ × ℕ))
    → ((word : List ℕ) → Any (λ place. text_at text place ≡ word) places → P word)
    → AllByRecursion P (map (text_at text) places)
all-texts P text [] h = tt
all-texts P text (place ∷ places) h = (
  h (text_at text place) (0, place, omega arith, refl, refl),
  all-texts P text places (λ word any. h word (suc any.0, any.1, omega (arith, any.2), any.3, any.4)),
)

-- The same of those that end before the text does.
pub all-ended : (P : List ℕ → Type 0) (text : List ℕ) (places : List (ℕ × ℕ))
    → ((word : List ℕ) → Any (λ (place : ℕ × ℕ). (place.1 < length text) × (text_at text place ≡ word)) places → P word)
    → AllByRecursion P (map (text_at text) (filter (λ (place : ℕ × ℕ). ltb place.1 (length text)) places))
all-ended P text [] h = tt
all-ended P text (place ∷ places) h =
    by (ltb place.1 (length text)) refl
    (all-ended P text places (λ word any. h word (suc any.0, any.1, omega (arith, any.2), any.3, any.4)))
  where
    rest : List (ℕ × ℕ)
    rest = filter (λ (other : ℕ × ℕ). ltb other.1 (length text)) places

    by : (b : Bool) → ltb place.1 (length text) ≡ b → AllByRecursion P (map (text_at text) rest)
        → AllByRecursion P (map (text_at text) (cond b (place ∷ rest) rest))
    by true e more =
        (h (text_at text place) (0, place, omega arith, refl, (ltb-true place.1 (length text) e, refl)), more)
    by false e more = more

-- What all of them have, each text has that stands at one of the places.
pub one-text : (P : List ℕ → Type 0) (text : List ℕ) (places : List (ℕ × ℕ)) (word : List ℕ)
    → All P (map (text_at text) places) → Any (λ place. text_at text place ≡ word) places → P word
one-text P text places word all any =
    let same : get_or (map (text_at text) places) any.0 (text_at text any.1) ≡ word =
    get_or-map (text_at text) places any.0 any.1 (text_at text any.1) any.2 ∙ ap (text_at text) any.3 ∙ any.4 in
    subst P same (all any.0 (text_at text any.1) (omega (arith, any.2, length-map places (text_at text))))

-- A text with a word has bytes.
pub filled : (text word : List ℕ) → IsOneOfWords text word → 0 < length text
filled text word any =
    let at = All-from_recursion (λ (place : ℕ × ℕ). IsWord text place.0 place.1) (words_of text) (are-words text) in
    let is : IsWord text any.1.0 any.1.1 =
    subst (λ (place : ℕ × ℕ). IsWord text place.0 place.1) any.3 (at any.0 any.1 any.2) in
    omega (arith, is.before, is.end_cut.0)

pub both-lists : (P : List ℕ → Type 0) (xs ys : List (List ℕ)) → AllByRecursion P xs → AllByRecursion P ys
    → AllByRecursion P (xs ++ ys)
both-lists P [] ys h more = more
both-lists P (x ∷ xs) ys h more = (h.0, both-lists P xs ys h.1 more)
