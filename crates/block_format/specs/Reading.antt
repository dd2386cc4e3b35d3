-- The rows that the items of a block say, and the spelling of rows.
use Rattle.std.specs.Prelude.{ℕ, Bool, true, false, ◌&&◌, ◌||◌, ◌*◌, ◌^◌, not, nat_le, nat_lt, int_lt, pos, filter}
use Rattle.std.specs.Prelude.{List, [], ◌∷◌, length, bytes_eq, Option, Some, None, if◌then◌else◌}
use Rattle.std.specs.List.{list_all}
use Rattle.std.specs.Map.{keys_of}
use Rattle.std.specs.Ordering.{is_lt}
use Rattle.byte_format.specs.Format.{Format, value, followed}
use Rattle.block_format.specs.Found.{Found}
use Rattle.block_format.specs.Parts.{parts}
use Rattle.log_model.specs.Field.{Field, bytes_cmp, is_empty, is_filled, is_reserved, set_all, weight}
use Rattle.log_model.specs.History.{Numbered}
use Rattle.log_model.specs.Row.{Row, has_field}
use Rattle.block_model.specs.Columns.{Column, names_of, rows_from}
use Rattle.block_model.specs.Texts.{is_text_row}
use Rattle.block_model.specs.declared.keys.Key.{Key}
use Rattle.block_format.specs.Rows.{labels_of}
use Rattle.block_format.specs.Rows.{are_numbered_apart, are_ordered, comes_before}
use Rattle.block_format.specs.Spelling.{block_bytes}

-- ---- the rows that items say

-- among rows in order, before the first that it comes before
abbrev pub put_row : List Numbered → Numbered → List Numbered
put_row [] row = row ∷ []
put_row (first ∷ rows) row = if comes_before row first then row ∷ first ∷ rows else first ∷ put_row rows row

abbrev pub in_order : List Numbered → List Numbered
in_order [] = []
in_order (row ∷ rows) = put_row (in_order rows) row

abbrev pub has_name : Column → Bool
has_name column = not (is_empty column.0)

-- a value has a name
abbrev pub is_named : Column → Bool
is_named column = has_name column || list_all is_empty column.1

abbrev pub is_since_1970 : Key → Bool
is_since_1970 key = not (int_lt key.time (pos 0))

-- The labels have names and values, the times are not before 1970, and the values have names.
abbrev pub are_said : Found → Bool
are_said found =
    list_all is_filled found.labels && (list_all is_since_1970 found.keys && list_all is_named found.columns)

-- the rows as they stand; labels, as fields, in any order
abbrev pub rows_found : Found → List Numbered
rows_found found = rows_from (set_all [] found.labels) (filter has_name found.columns) 0 found.keys

-- the rows in order, and none where one has a label, a time or a value that no row has
abbrev pub rows_said : Found → List Numbered
rows_said found = if are_said found then in_order (rows_found found) else []

-- a block as a format, whose value is its rows
unfoldable pub block : Format (List Numbered)
block = followed parts (λ found. value (rows_said found))

-- ---- the rows that have a spelling

-- Each of the tests holds.
abbrev pub all_hold : List Bool → Bool
all_hold tests = list_all (λ test. test) tests

-- in byte order, each once
abbrev pub are_rising : List (List ℕ) → Bool
are_rising [] = true
are_rising (name ∷ names) = list_all (λ other. is_lt (bytes_cmp name other)) names && are_rising names

-- `IsFieldList` as a test
abbrev pub is_field_list : List Field → Bool
is_field_list fields = are_rising (keys_of fields) && list_all is_filled fields

-- `IsRow` as a test
abbrev pub row_tests : Row → List Bool
row_tests row =
    nat_lt row.moment (2 ^ 63)
    ∷ is_field_list row.labels
    ∷ list_all (has_field row.fields) row.labels
    ∷ is_field_list row.fields
    ∷ list_all (λ field. not (is_reserved field.0)) row.fields
    ∷ nat_lt 0 (length row.fields)
    ∷ nat_le (length row.fields) 1000
    ∷ list_all (λ field. nat_le (length field.0) 128) row.fields
    ∷ nat_le (weight row.fields) 262_144
    ∷ []

unfoldable pub is_row : Row → Bool
is_row row = all_hold (row_tests row)

-- `IsNumbered` as a test, of a row in UTF-8
abbrev pub numbered_tests : Numbered → List Bool
numbered_tests numbered =
    nat_lt numbered.batch (2 ^ 64)
    ∷ nat_lt numbered.place (2 ^ 32)
    ∷ is_row numbered.row
    ∷ is_text_row numbered
    ∷ []

unfoldable pub is_numbered : Numbered → Bool
is_numbered numbered = all_hold (numbered_tests numbered)

abbrev pub same_fields : List Field → List Field → Bool
same_fields [] [] = true
same_fields [] (b ∷ bs) = false
same_fields (a ∷ xs) [] = false
same_fields (a ∷ xs) (b ∷ bs) = (bytes_eq a.0 b.0 && bytes_eq a.1 b.1) && same_fields xs bs

-- `IsBlock` as a test, of rows that can be written
abbrev pub block_tests : List Numbered → List Bool
block_tests rows =
    nat_lt 0 (length rows)
    ∷ nat_le (length rows) 4096
    ∷ nat_le (length (names_of rows)) 2000
    ∷ nat_le (length rows * length (names_of rows)) 1_048_576
    ∷ list_all (λ numbered. same_fields numbered.row.labels (labels_of rows)) rows
    ∷ are_ordered rows
    ∷ are_numbered_apart rows
    ∷ list_all is_numbered rows
    ∷ []

unfoldable pub has_spelling : List Numbered → Bool
has_spelling rows = all_hold (block_tests rows)

-- the spelling of the rows of a block
abbrev pub block_writing : List Numbered → Option (List ℕ)
block_writing rows = if has_spelling rows then Some (block_bytes rows) else None
