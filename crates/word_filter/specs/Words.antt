-- The words of a column's values, and the filter of them.
use Rattle.std.specs.Prelude.{◌≡◌, ℕ, Bool, true, ◌||◌, IfSome, IsTrue, List, ◌++◌, Option, bytes_eq, length, map, Result, Ok}
use Rattle.std.specs.BTreeSet.{insert_key}
use Rattle.std.specs.Int.{w32, w64, to_le_bytes}
use Rattle.std.specs.List.{All, flat_map, fold, list_all, list_any, slice_range}
use Rattle.block_model.specs.Distinct.{distinct}
use Rattle.byte_format.specs.Format.{Format, value, followed, many, front, ◌>>=◌}
use Rattle.byte_format.specs.Items.{number}
use Rattle.log_model.specs.Field.{bytes_cmp, is_empty}
use Rattle.token_bloom.specs.Filter.{empty_filter, filter_bytes, may_have, with_word}
use Rattle.word_tokens.specs.Runs.{words_of}

-- the text of each word
abbrev pub words_in : List ℕ → List (List ℕ)
words_in text = map (λ place. slice_range text place.0 place.1) (words_of text)

-- the words of all values, each once
abbrev pub column_words : List (List ℕ) → List (List ℕ)
column_words values = distinct (flat_map words_in values)

-- a filter with room for them, to which each is added
abbrev pub filter_of : List (List ℕ) → List ℕ
filter_of values = fold with_word (empty_filter (length (column_words values))) (column_words values)

-- Each word of the text may be there.
abbrev pub HasWords : List ℕ → List ℕ → Type 0
HasWords filter text = All (λ word. IsTrue (may_have filter word)) (words_in text)

-- The filter of some values leaves out no word of them.
abbrev pub LeavesNoneOut : Type 0
LeavesNoneOut = (values : List (List ℕ)) → All (HasWords (filter_of values)) values

-- some texts in order, and the words of one more value
abbrev pub put_words : List (List ℕ) → List ℕ → List (List ℕ)
put_words texts text = fold (insert_key bytes_cmp) texts (words_in text)

-- no word, or one of these texts
abbrev pub is_there : List (List ℕ) → List ℕ → Bool
is_there texts word = is_empty word || list_any (bytes_eq word) texts

-- The words that are remembered are there, if any are.
abbrev pub Remembers : List (List ℕ) → Option (List (List ℕ)) → Type 0
Remembers texts recent = IfSome recent (λ slots. list_all (is_there texts) slots ≡ true)

-- the number of words of 64 bits, and these words
unfoldable pub counted_filter : List ℕ → List ℕ
counted_filter filter = to_le_bytes w32 (length filter) ++ filter_bytes filter

-- the same as a format, which keeps only the number
unfoldable pub filter_item : Format ℕ
filter_item = followed (number w32) (λ count. followed (many count (number w64)) (λ filter. value count))

-- the bytes after this many words of 64 bits
abbrev pub skipped : ℕ → List ℕ → Result (List ℕ) ℕ
skipped count bytes = front (many count (number w64)) bytes >>= λ filter. Ok filter.1

-- the same, one step after another
unfoldable pub filter_steps : List ℕ → Result (ℕ × List ℕ) ℕ
filter_steps bytes = do
  count ← front (number w32) bytes
  rest ← skipped count.0 count.1
  Ok (count.0, rest)
