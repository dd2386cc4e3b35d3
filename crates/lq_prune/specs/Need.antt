-- What a condition needs of a block, by what is known of the block without its values.
use Rattle.std.specs.Prelude.{ℕ, ℤ, pos, ◌+ℤ◌, ◌-ℤ◌, int_le, Bool, true, false, ◌&&◌, ◌||◌, nat_lt, bytes_eq}
use Rattle.std.specs.Prelude.{List, [], ◌∷◌, length, map, filter, flat_map, if◌then◌else◌}
use Rattle.std.specs.List.{list_any, slice_range}
use Rattle.log_model.specs.Field.{is_reserved}
use Rattle.token_bloom.specs.Filter.{may_have}
use Rattle.word_tokens.specs.Runs.{words_of}
use Rattle.word_filter.specs.Words.{words_in}
use Rattle.lq_ast.specs.Condition.{Condition, Conditions, Tests}
use Rattle.lq_ast.specs.Condition as is
use Rattle.lq_ast.specs.Holds.{selects}
use Rattle.block_body.specs.Outline.{NamedFilter, Outline}

-- A time between two moments, both included; a stream that groups of tests select; and a column with a word in it.
pub data TheNeed : Type 0 where
  nothing : TheNeed
  impossible : TheNeed
  both : TheNeed → TheNeed → TheNeed
  either : TheNeed → TheNeed → TheNeed
  time_within : ℤ → ℤ → TheNeed
  stream_selected : List Tests → TheNeed
  column_word : List ℕ → List ℕ → TheNeed

-- each of these needs
abbrev pub all_needed : List TheNeed → TheNeed
all_needed [] = nothing
all_needed (need ∷ needs) = both need (all_needed needs)

-- one of these needs
abbrev pub one_needed : List TheNeed → TheNeed
one_needed [] = impossible
one_needed (need ∷ needs) = either need (one_needed needs)

-- the words that end before the text does, so that no other text goes on with them
abbrev pub ended_words : List ℕ → List (List ℕ)
ended_words text =
    map (λ place. slice_range text place.0 place.1)
    (filter (λ place. nat_lt place.1 (length text)) (words_of text))

-- each of these words in the column of this name
abbrev pub words_needed : List ℕ → List (List ℕ) → TheNeed
words_needed name words = all_needed (map (column_word name) words)

-- all words of the text
abbrev pub text_needed : List ℕ → List ℕ → TheNeed
text_needed name text = words_needed name (words_in text)

-- A reserved name is that of a computed field, which no column has.
abbrev pub field_need : List ℕ → TheNeed → TheNeed
field_need name need = if is_reserved name then nothing else need

-- What is not listed needs nothing. So does what is negated, whatever is under it.
abbrev mutual
  pub need_of : ℤ → Condition → TheNeed
  need_of now (is.phrase name text) = field_need name (text_needed name text)
  need_of now (is.exact name text) = field_need name (text_needed name text)
  need_of now (is.prefix name text) = field_need name (words_needed name (ended_words text))
  need_of now (is.exact_prefix name text) = field_need name (words_needed name (ended_words text))
  need_of now (is.one_of name texts) = field_need name (one_needed (map (text_needed name) texts))
  need_of now (is.sequence name texts) = field_need name (words_needed name (flat_map words_in texts))
  need_of now (is.last span) = time_within (now -ℤ span +ℤ pos 1) now
  need_of now (is.times from to) = time_within from to
  need_of now (is.selected groups) = stream_selected groups
  need_of now (is.all_of conditions) = all_needed (needs_of now conditions)
  need_of now (is.any_of conditions) = one_needed (needs_of now conditions)
  need_of now _ = nothing

  pub needs_of : ℤ → Conditions → List TheNeed
  needs_of now is.no_more = []
  needs_of now (is.one_more condition conditions) = need_of now condition ∷ needs_of now conditions

-- The column has this name, and may have the word.
abbrev pub may_have_word : List ℕ → List ℕ → NamedFilter → Bool
may_have_word name word column = bytes_eq column.0 name && may_have column.1 word

-- A block of which this is known may have what is needed.
abbrev pub admits : TheNeed → Outline → Bool
admits nothing outline = true
admits impossible outline = false
admits (both need other) outline = admits need outline && admits other outline
admits (either need other) outline = admits need outline || admits other outline
admits (time_within from to) outline = int_le from outline.max && int_le outline.min to
admits (stream_selected groups) outline = selects groups outline.labels
admits (column_word name word) outline = list_any (may_have_word name word) outline.columns
