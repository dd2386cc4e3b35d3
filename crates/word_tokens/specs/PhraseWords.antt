-- The words that a text must have where a phrase or a prefix occurs in it.
use Rattle.std.specs.Prelude.{◌≡◌, ℕ, ◌<◌, true, List, length}
use Rattle.std.specs.List.{Any, slice_range}
use Rattle.std.specs.Str.{IsUtf8}
use Rattle.log_model.specs.Words.{occurs}
use Rattle.word_tokens.specs.Prefix.{occurs_as_prefix}
use Rattle.word_tokens.specs.Runs.{IsOneOfWords, words_of}

-- This is the text of one of its words that another character follows. So it is none of a last word that may go on.
abbrev pub IsOneOfEndedWords : List ℕ → List ℕ → Type 0
IsOneOfEndedWords text word =
    Any (λ (place : ℕ × ℕ). (place.1 < length text) × (slice_range text place.0 place.1 ≡ word)) (words_of text)

-- Where a phrase occurs in a text, each word of the phrase is a word of the text.
abbrev pub PhrasesBringWords : Type 0
PhrasesBringWords = (text phrase word : List ℕ) → IsUtf8 text → IsUtf8 phrase → occurs text phrase ≡ true
    → IsOneOfWords phrase word → IsOneOfWords text word

-- Where a prefix occurs in a text, each word of the prefix that ends in it is a word of the text.
abbrev pub PrefixesBringWords : Type 0
PrefixesBringWords = (text prefix word : List ℕ) → IsUtf8 text → IsUtf8 prefix → occurs_as_prefix text prefix ≡ true
    → IsOneOfEndedWords prefix word → IsOneOfWords text word
