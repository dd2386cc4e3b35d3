-- The words of values, and how many there are.
use Rattle.std.proofs.Common.{◌≡◌, ℕ, zero, suc, ◌+◌, ◌≤◌, Bool, true, false, cond, List, [], ◌∷◌, ◌++◌, length}
use Rattle.std.proofs.Common.{get_or, map, filter, drop, take, ◌-◌, ◌<◌, refl, sym, ap, ◌∙◌, arith}
use Rattle.std.specs.BTreeSet.{insert_key}
use Rattle.std.specs.List.{AllByRecursion, flat_map, fold, range_with_len, slice_range}
use Rattle.std.specs.declared.cmp.Ordering.{Ordering}
use Rattle.std.specs.declared.cmp.Ordering.TheVariants.{Less, Equal, Greater}
use Rattle.std.specs.Ordering.{match_ordering}
use Rattle.std.specs.Str.{IsUtf8}
use Rattle.std.proofs.lemmas.List.{append-nil, length-append, length-drop, length-map, length-take, map_more}
use Rattle.std.proofs.lemmas.List.Concat.{flat_map-append, flat_map-cons}
use Rattle.std.proofs.lemmas.List.Sums.{fold-append}
use Rattle.block_model.specs.Distinct.{distinct}
use Rattle.log_model.specs.Field.{bytes_cmp}
use Rattle.word_filter.specs.Words.{column_words, put_words, words_in}
use Rattle.word_tokens.specs.Runs.{is_word_at, words_at, words_between, words_of}
use Rattle.word_tokens.proofs.WordLists.{words_at-one, words_between-one, words_between-split}
use Rattle.word_tokens.proofs.WordRuns.{IsWord, IsWord-true}

abbrev pub AreWords : List ℕ → List (ℕ × ℕ) → Type 0
AreWords text places = AllByRecursion (λ (place : ℕ × ℕ). IsWord text place.0 place.1) places

abbrev pub texts_at : List ℕ → List (ℕ × ℕ) → List (List ℕ)
texts_at text places = map (λ place. slice_range text place.0 place.1) places

ends : (text : List ℕ) (start : ℕ) (ns : List ℕ)
    → AreWords text (map (λ (end : ℕ). (start, end)) (filter (is_word_at text start) ns))
ends text start [] = tt
ends text start (n ∷ ns) = by (is_word_at text start n) refl (ends text start ns)
  where
    by : (b : Bool) → is_word_at text start n ≡ b
        → AreWords text (map (λ (end : ℕ). (start, end)) (filter (is_word_at text start) ns))
        → AreWords text (map (λ (end : ℕ). (start, end)) (cond b (n ∷ filter (is_word_at text start) ns)
        (filter (is_word_at text start) ns)))
    by true e more = (IsWord-true text start n e, more)
    by false e more = more

both : (text : List ℕ) (front back : List (ℕ × ℕ)) → AreWords text front → AreWords text back
    → AreWords text (front ++ back)
both text [] back h more = more
both text (place ∷ places) back h more = (h.0, both text places back h.1 more)

starts-here : (text : List ℕ) (start : ℕ) → AreWords text (words_at text start)
starts-here text start = ends text start (range_with_len 0 (suc (length text)))

between : (text : List ℕ) (from n : ℕ) → AreWords text (words_between text from n)
unfolding words_between
between text from zero = tt
between text from (suc n) =
    both text (words_at text from) (words_between text (from + 1) n) (starts-here text from)
    (between text (from + 1) n)

-- each word is one
pub are-words : (text : List ℕ) → AreWords text (words_of text)
are-words text = between text 0 (suc (length text))

-- the places of one start
same-start : (text : List ℕ) (start : ℕ) (ns : List ℕ) (place : ℕ × ℕ) (more : List (ℕ × ℕ))
    → map (λ (end : ℕ). (start, end)) ns ≡ place ∷ more → start ≡ place.0
same-start text start [] place more e = absurd cc
same-start text start (n ∷ ns) place more e = cc

-- at most one word begins at a byte
one-at-most : (text : List ℕ) (start : ℕ) → IsUtf8 text → length (words_at text start) ≤ 1
one-at-most text start utf8 = by (words_at text start) refl (starts-here text start)
  where
    by : (places : List (ℕ × ℕ)) → words_at text start ≡ places → AreWords text places → length places ≤ 1
    by [] e h = omega arith
    by (place ∷ more) e h =
        let here = same-start text start (filter (is_word_at text start) (range_with_len 0 (suc (length text)))) place
        more e in
        let word : IsWord text start place.1 = rw here h.0 in
        let one = words_at-one text start place.1 utf8 word in
        omega (arith, ap length one, ap length e)

few-between : (text : List ℕ) (from n : ℕ) → IsUtf8 text → length (words_between text from n) ≤ n
unfolding words_between
few-between text from zero utf8 = omega arith
few-between text from (suc n) utf8 =
    omega (
      arith,
      length-append (words_at text from) (words_between text (from + 1) n),
      one-at-most text from utf8,
      few-between text (from + 1) n utf8,
    )

-- none begins at the end
none-at-end : (text : List ℕ) → words_at text (length text) ≡ []
none-at-end text = by (words_at text (length text)) refl (starts-here text (length text))
  where
    by : (places : List (ℕ × ℕ)) → words_at text (length text) ≡ places → AreWords text places → places ≡ []
    by [] e h = refl
    by (place ∷ more) e h =
        let here = same-start text (length text) (filter (is_word_at text (length text)) (range_with_len 0 (suc
        (length text)))) place more e in
        absurd (omega (arith, here, h.0.before, h.0.end_cut.0))

-- a word has a byte
pub filled-word : (text : List ℕ) (start end : ℕ) (word : List ℕ) → IsWord text start end
    → word ≡ slice_range text start end → 0 < length word
filled-word text start end word is e =
    omega (
      arith,
      ap length e,
      length-take (end - start) (drop start text),
      length-drop start text,
      is.before,
      is.end_cut.0,
    )

-- no more words than bytes
pub few-words : (text : List ℕ) → IsUtf8 text → length (words_of text) ≤ length text
few-words text utf8 =
    let size : suc (length text) ≡ length text + 1 = omega arith in
    let from_start : 0 + length text ≡ length text = omega arith in
    let all : words_of text ≡ words_between text 0 (length text) ++ words_between text (length text) 1 =
    ap (words_between text 0) size ∙ words_between-split text 0 (length text) 1
    ∙ ap (λ (n : ℕ). words_between text 0 (length text) ++ words_between text n 1) from_start in
    let last : words_between text (length text) 1 ≡ [] = words_between-one text (length text) ∙ none-at-end text in
    omega (
      arith,
      ap length all,
      length-append (words_between text 0 (length text)) (words_between text (length text) 1),
      ap length last,
      few-between text 0 (length text) utf8,
    )

put-one : (key : List ℕ) (keys : List (List ℕ)) → length (insert_key bytes_cmp keys key) ≤ length keys + 1
put-one key [] = omega arith
put-one key (x ∷ xs) = by (bytes_cmp key x) (put-one key xs)
  where
    by : (o : Ordering) → length (insert_key bytes_cmp xs key) ≤ length xs + 1
        → length (match_ordering o (key ∷ x ∷ xs) (x ∷ xs) (x ∷ insert_key bytes_cmp xs key)) ≤ length (x ∷ xs) + 1
    by Less h = omega arith
    by Equal h = omega arith
    by Greater h = omega (arith, h)

put-all : (texts keys : List (List ℕ)) → length (fold (insert_key bytes_cmp) keys texts) ≤ length keys + length texts
put-all [] keys = omega arith
put-all (t ∷ ts) keys = omega (arith, put-one t keys, put-all ts (insert_key bytes_cmp keys t))

-- no more distinct texts than texts
pub few-distinct : (texts : List (List ℕ)) → length (distinct texts) ≤ length texts
few-distinct texts = omega (arith, put-all texts [])

-- the words of a value add at most this many
pub few-put : (keys : List (List ℕ)) (text : List ℕ) → IsUtf8 text
    → length (put_words keys text) ≤ length keys + length text
few-put keys text utf8 =
    omega (
      arith,
      put-all (texts_at text (words_of text)) keys,
      length-map (words_of text) (λ (place : ℕ × ℕ). slice_range text place.0 place.1),
      few-words text utf8,
    )

-- ---- the words of one value more

put-distinct : (texts : List (List ℕ)) (text : List ℕ)
    → put_words (distinct texts) text ≡ distinct (texts ++ words_in text)
put-distinct texts text = sym (fold-append (insert_key bytes_cmp) [] texts (words_in text))

pub column-more : {X : Type 0} (f : X → List ℕ) (values : List X) (n : ℕ) (d : X) → n < length values
    → put_words (column_words (map f (take n values))) (f (get_or values n d))
    ≡ column_words (map f (take (n + 1) values))
column-more f values n d lt =
    let one : flat_map words_in (f (get_or values n d) ∷ []) ≡ words_in (f (get_or values n d)) =
    flat_map-cons words_in (f (get_or values n d)) [] ∙ append-nil (words_in (f (get_or values n d))) in
    put-distinct (flat_map words_in (map f (take n values))) (f (get_or values n d))
    ∙ ap distinct (ap (λ (ws : List (List ℕ)). flat_map words_in (map f (take n values)) ++ ws) (sym one)
    ∙ sym (flat_map-append words_in (map f (take n values)) (f (get_or values n d) ∷ []))
    ∙ ap (flat_map words_in) (sym (map_more f values n d lt)))
