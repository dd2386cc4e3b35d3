-- What is written of a filter is read again.
use Rattle.std.proofs.Common.{◌≡◌, ℕ, zero, suc, ◌*◌, ◌/◌, ◌%◌, ◌<◌, ◌≤◌, ◌^◌, Bool, true, false, cond, eqb}
use Rattle.std.proofs.Common.{get_or, set, List, [], ◌∷◌, ◌++◌, length, Ok, refl, sym, ap, ◌∙◌, arith, append_assoc}
use Rattle.std.specs.Prelude.{bit_or, replicate, sum_by}
use Rattle.std.specs.Int.{Width, w32, w64, byte_len, from_le_bytes, to_le_bytes}
use Rattle.std.specs.List.{AllByRecursion, flat_map, fold, list_all, slice_range}
use Rattle.std.specs.Str.{is_utf8}
use Rattle.std.proofs.lemmas.List.{length-append, length-map}
use Rattle.std.proofs.lemmas.List.Concat.{flat_map-cons}
use Rattle.std.proofs.lemmas.List.Sums.{sum_by-cons}
use Rattle.std.proofs.lemmas.Nat.{from_le_bytes-to_le_bytes_4, from_le_bytes-to_le_bytes_8, or_lt}
use Rattle.std.proofs.lemmas.Str.{IsUtf8-from_is_utf8}
use Rattle.byte_format.specs.Format.{value, exactly, front, many}
use Rattle.byte_format.specs.Items.{any_number, number}
use Rattle.byte_format.proofs.Cases.{both_true}
use Rattle.byte_format.proofs.Readings.{front-item}
use Rattle.byte_format.proofs.Turns.{many-again}
use Rattle.token_bloom.specs.Bits.{bit_count, fnv, places, with_bit, with_bits}
use Rattle.token_bloom.specs.Filter.{empty_filter, filter_bytes, with_word, words_for}
use Rattle.word_filter.specs.Words.{column_words, counted_filter, filter_item, filter_of, filter_steps, words_in}
use Rattle.word_filter.proofs.FilterLaws.{filter-steps, small-filter}
use Rattle.word_filter.proofs.WordLaws.{few-distinct, few-words}
use Rattle.word_tokens.specs.Runs.{words_of}

-- ---- numbers

pub number-again : (w : Width) (n : ℕ) (rest : List ℕ) → length (to_le_bytes w n) ≡ byte_len w
    → from_le_bytes w (to_le_bytes w n) ≡ n → front (number w) (to_le_bytes w n ++ rest) ≡ Ok (n, rest)
number-again w n rest len back =
    front-item (exactly (byte_len w)) (λ bytes. any_number (from_le_bytes w bytes)) (λ bytes. value (from_le_bytes w
    bytes)) (to_le_bytes w n) rest (sym len) refl
    ∙ ap (λ (m : ℕ). Ok (m, rest)) back

-- ---- the words of 64 bits of a filter

abbrev pub AreNarrow : List ℕ → Type 0
AreNarrow filter = AllByRecursion (λ n. n < 2 ^ 64) filter

narrow-at : (filter : List ℕ) (i : ℕ) → AreNarrow filter → get_or filter i 0 < 2 ^ 64
narrow-at [] i h = omega arith
narrow-at (n ∷ ns) zero h = h.0
narrow-at (n ∷ ns) (suc i) h = narrow-at ns i h.1

narrow-set : (filter : List ℕ) (i n : ℕ) → n < 2 ^ 64 → AreNarrow filter → AreNarrow (set filter i n)
narrow-set [] i n lt h = tt
narrow-set (m ∷ ms) zero n lt h = (lt, h.1)
narrow-set (m ∷ ms) (suc i) n lt h = (h.0, narrow-set ms i n lt h.1)

narrow-bit : (filter : List ℕ) (b : ℕ) → AreNarrow filter → AreNarrow (with_bit filter b)
narrow-bit filter b h =
    let bit : 1 * 2 ^ (b % 64) % 2 ^ 64 < 2 ^ 64 = omega arith in
    narrow-set filter (b / 64) (bit_or (get_or filter (b / 64) 0) (1 * 2 ^ (b % 64) % 2 ^ 64))
    (or_lt 64 (get_or filter (b / 64) 0) (1 * 2 ^ (b % 64) % 2 ^ 64) (narrow-at filter (b / 64) h) bit) h

narrow-bits : (filter bits : List ℕ) → AreNarrow filter → AreNarrow (with_bits filter bits)
narrow-bits filter [] h = h
narrow-bits filter (b ∷ bits) h = narrow-bits (with_bit filter b) bits (narrow-bit filter b h)

narrow-word : (filter word : List ℕ) → AreNarrow filter → AreNarrow (with_word filter word)
narrow-word filter word h = by (eqb (length filter) 0)
  where
    by : (none : Bool) → AreNarrow (cond none filter (with_bits filter (places (bit_count filter) (fnv word))))
    by true = h
    by false = narrow-bits filter (places (bit_count filter) (fnv word)) h

narrow-words : (filter : List ℕ) (words : List (List ℕ)) → AreNarrow filter → AreNarrow (fold with_word filter words)
narrow-words filter [] h = h
narrow-words filter (word ∷ words) h = narrow-words (with_word filter word) words (narrow-word filter word h)

narrow-empty : (n : ℕ) → AreNarrow (replicate n 0)
narrow-empty zero = tt
narrow-empty (suc n) = (omega arith, narrow-empty n)

pub are-narrow : (values : List (List ℕ)) → AreNarrow (filter_of values)
are-narrow values =
    narrow-words (empty_filter (length (column_words values))) (column_words values)
    (narrow-empty (words_for (length (column_words values))))

-- ---- how many there are

few-in-all : (values : List (List ℕ)) → list_all is_utf8 values ≡ true
    → length (flat_map words_in values) ≤ sum_by length values
few-in-all [] h = omega arith
few-in-all (t ∷ ts) h =
    let p = both_true (is_utf8 t) (list_all is_utf8 ts) h in
    omega (
      arith,
      ap length (flat_map-cons words_in t ts),
      length-append (words_in t) (flat_map words_in ts),
      length-map (words_of t) (λ (place : ℕ × ℕ). slice_range t place.0 place.1),
      few-words t (IsUtf8-from_is_utf8 t p.0),
      few-in-all ts p.1,
      sum_by-cons length t ts,
    )

pub few-of-values : (values : List (List ℕ)) → list_all is_utf8 values ≡ true → sum_by length values < 2 ^ 32
    → length (filter_of values) < 2 ^ 32
few-of-values values utf8 small =
    small-filter (length (column_words values)) (column_words values)
    (omega (arith, few-distinct (flat_map words_in values), few-in-all values utf8, small))

-- ---- both

pub filter-again : (filter rest : List ℕ) → AreNarrow filter → length filter < 2 ^ 32
    → front filter_item (counted_filter filter ++ rest) ≡ Ok (length filter, rest)
unfolding counted_filter filter_steps
filter-again filter rest narrow few =
    let regrouped : counted_filter filter ++ rest ≡ to_le_bytes w32 (length filter) ++ (filter_bytes filter ++ rest) =
    append_assoc (to_le_bytes w32 (length filter)) (filter_bytes filter) rest in
    let count : front (number w32) (to_le_bytes w32 (length filter) ++ (filter_bytes filter ++ rest))
    ≡ Ok (length filter, filter_bytes filter ++ rest) = number-again w32 (length filter) (filter_bytes filter ++ rest)
    refl (from_le_bytes-to_le_bytes_4 (length filter) few) in
    let words : front (many (length filter) (number w64)) (filter_bytes filter ++ rest) ≡ Ok (filter, rest) =
    many-again (number w64) (to_le_bytes w64) (λ n. n < 2 ^ 64) (λ n r lt. number-again w64 n r refl
    (from_le_bytes-to_le_bytes_8 n lt)) filter rest narrow in
    ap (front filter_item) regrouped
    ∙ filter-steps (to_le_bytes w32 (length filter) ++ (filter_bytes filter ++ rest))
    ∙ rw (count, words) refl
