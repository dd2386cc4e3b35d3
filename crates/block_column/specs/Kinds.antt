-- The four kinds of column, of which the first that fits is used.
use Rattle.std.specs.Prelude.{ℕ, ℤ, Bool, false, true, ◌&&◌, not, nat_le, List, [], ◌∷◌, ◌++◌, length, map}
use Rattle.std.specs.Prelude.{bytes_eq, is_some, if◌then◌else◌, unwrap_or, pos}
use Rattle.std.specs.List.{flat_map, list_all}
use Rattle.std.specs.Int.{w16, w32}
use Rattle.byte_format.specs.Written.{text_bytes}
use Rattle.col_codec.specs.Ints.{int_spelling}
use Rattle.col_codec.specs.Texts.{text_spelling}
use Rattle.block_model.specs.Distinct.{codes_of, distinct, is_short}
use Rattle.log_model.specs.Field.{is_empty}
use Rattle.log_model.specs.Order.{number_of}

pub data Kind : Type 0 where
  constant : Kind
  integers : Kind
  dictionary : Kind
  plain : Kind

-- equal values are held once
abbrev pub is_held_once : Kind → Bool
is_held_once constant = true
is_held_once integers = false
is_held_once dictionary = true
is_held_once plain = false

abbrev pub code_of_kind : Kind → ℕ
code_of_kind constant = 0
code_of_kind integers = 1
code_of_kind dictionary = 2
code_of_kind plain = 3

-- all rows have the same value, which is not empty
abbrev pub is_constant : List (List ℕ) → Bool
is_constant [] = false
is_constant (value ∷ values) = not (is_empty value) && list_all (bytes_eq value) values

abbrev pub is_number : List ℕ → Bool
is_number value = is_some (number_of value)

abbrev pub are_integers : List (List ℕ) → Bool
are_integers values = list_all is_number values

-- at most 255 distinct values, each of at most 256 bytes
abbrev pub fits_dictionary : List (List ℕ) → Bool
fits_dictionary values = nat_le (length (distinct values)) 255 && list_all is_short values

unfoldable pub kind_of : List (List ℕ) → Kind
kind_of values =
    if is_constant values then constant
    else (if are_integers values then integers
    else (if fits_dictionary values then dictionary else plain))

abbrev pub first_of : List (List ℕ) → List ℕ
first_of [] = []
first_of (value ∷ values) = value

abbrev pub integer_of : List ℕ → ℤ
integer_of value = unwrap_or (number_of value) (pos 0)

abbrev pub integers_in : List (List ℕ) → List ℤ
integers_in values = map integer_of values

abbrev pub dictionary_bytes : List (List ℕ) → List ℕ → List ℕ
dictionary_bytes texts codes = (length texts ∷ []) ++ (flat_map (text_bytes w16) texts ++ codes)

-- the body of a column of this kind
unfoldable pub body_of : Kind → List (List ℕ) → List ℕ
body_of constant values = text_bytes w32 (first_of values)
body_of integers values = int_spelling (integers_in values)
body_of dictionary values = dictionary_bytes (distinct values) (codes_of values)
body_of plain values = text_spelling values
