-- The columns of rows that are picked.
use Rattle.std.specs.Prelude.{◌≡◌, ℕ, ℤ, Bool, true, ◌+◌, ◌<◌, ◌^◌, List, [], length, map, not, if◌then◌else◌, sum_by}
use Rattle.std.specs.Fmt.{signed_decimal}
use Rattle.std.specs.List.{filter, flat_map, list_any}
use Rattle.log_model.specs.Field.{is_empty}
use Rattle.log_model.specs.History.{Numbered}
use Rattle.lent_row.specs.declared.value.Value.{Value}
use Rattle.lent_row.specs.declared.value.Value.TheVariants as value
use Rattle.block_model.specs.Columns.{names_of, values_of}
use Rattle.block_model.specs.Distinct.{distinct}
use Rattle.word_filter.specs.Words.{filter_of}
use Rattle.block_gather.specs.Picked.{Picked}
use Rattle.block_gather.specs.declared.column.Column.{Column}

-- the names that the blocks have, each once, in byte order
abbrev pub names_in : List Picked → List (List ℕ)
names_in picks = distinct (flat_map (λ pick. names_of pick.block) picks)

abbrev pub has_text : List ℕ → Bool
has_text value = not (is_empty value)

-- Some row has a field of this name.
abbrev pub is_used : List Numbered → List ℕ → Bool
is_used rows name = list_any has_text (values_of rows name)

-- the bytes of a field, whose name has this length
abbrev pub cell_weight : ℕ → List ℕ → ℕ
cell_weight name value = if is_empty value then 0 else name + length value

abbrev pub column_weight : ℕ → List (List ℕ) → ℕ
column_weight name values = sum_by (cell_weight name) values

-- the bytes of the fields of this name
abbrev pub name_weight : List Numbered → List ℕ → ℕ
name_weight rows name = column_weight (length name) (values_of rows name)

-- the decimal text of an integer
abbrev pub decimal_of : Value → List ℕ
decimal_of (value.Str text) = []
decimal_of (value.Int integer) = signed_decimal integer

-- a column of these values, under a name of this length
pub record IsColumn (name : ℕ) (texts : List (List ℕ)) (column : Column) : Type 0 where
  pub values : column.values ≡ texts
  pub bloom : column.bloom ≡ filter_of texts
  pub small : length column.bloom < 2 ^ 32
  pub weight : column.weight ≡ column_weight name texts
  pub used : list_any has_text texts ≡ true
