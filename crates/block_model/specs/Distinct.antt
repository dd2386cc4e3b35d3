-- Texts among texts, and each of some texts once.
use Rattle.std.specs.Prelude.{◌≡◌, ℕ, Bool, List, [], bytes_eq, fold, length, map, nat_le, slice_index_or}
use Rattle.std.specs.BTreeSet.{insert_key}
use Rattle.std.specs.List.{list_any, position_or_len}
use Rattle.log_model.specs.Field.{bytes_cmp}

-- one of the texts
abbrev pub is_listed : List (List ℕ) → List ℕ → Bool
is_listed texts text = list_any (bytes_eq text) texts

-- each text once, in byte order
abbrev pub distinct : List (List ℕ) → List (List ℕ)
distinct texts = fold (insert_key bytes_cmp) [] texts

-- The lists have the same texts, however often.
abbrev pub HaveSameTexts : List (List ℕ) → List (List ℕ) → Type 0
HaveSameTexts texts others = (text : List ℕ) → is_listed texts text ≡ is_listed others text

-- the place of a text among the distinct ones
abbrev pub code_of : List (List ℕ) → List ℕ → ℕ
code_of sorted text = position_or_len (bytes_eq text) sorted

abbrev pub codes_of : List (List ℕ) → List ℕ
codes_of texts = map (code_of (distinct texts)) texts

-- the text that a code stands for
abbrev pub text_at : List (List ℕ) → ℕ → List ℕ
text_at texts code = slice_index_or texts code []

-- at most 256 bytes
abbrev pub is_short : List ℕ → Bool
is_short text = nat_le (length text) 256
