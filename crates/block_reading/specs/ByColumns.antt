-- When keys and columns are those of a block.
use Rattle.std.specs.Prelude.{◌≡◌, ℕ, zero, suc, ◌+◌, ◌-◌, ◌*◌, ◌^◌, ◌<◌, ◌≤◌, Bool, true, false, ◌&&◌, List, [], length, map}
use Rattle.std.specs.Prelude.{bytes_eq, if◌then◌else◌, int_lt, nat_le, nat_lt, not, pos, slice_index_or, sum_by, unsigned_abs}
use Rattle.std.specs.List.{AllByRecursion, fold, list_all, list_any}
use Rattle.std.specs.Str.{is_utf8}
use Rattle.block_format.specs.Rows.{are_numbered_apart, are_ordered}
use Rattle.block_model.specs.Columns.{Column, rows_from}
use Rattle.block_model.specs.declared.keys.Key.{Key}
use Rattle.log_model.specs.Field.{Field, is_empty, is_reserved}
use Rattle.log_model.specs.History.{Numbered}
use Rattle.word_filter.specs.Words.{filter_of}
use Rattle.block_reading.specs.declared.sizes.RowSize.{RowSize}
use Rattle.block_body.specs.Outline.{NamedFilter, Outline}
use Rattle.block_body.specs.Outlines.{outline_with}
use Rattle.block_body.specs.declared.head.Extent.{Extent}

abbrev pub column_names : List Column → List (List ℕ)
column_names columns = map (λ column. column.0) columns

abbrev pub contents : List Column → List (List (List ℕ))
contents columns = map (λ column. column.1) columns

-- each name, and the filter of the words of the values beside it
abbrev pub filter_for : Column → NamedFilter
filter_for column = (column.0, filter_of column.1)

-- within the limits
pub record AreFew (rows columns : ℕ) : Type 0 where
  pub some : 0 < rows
  pub few : rows ≤ 4096
  pub narrow : columns ≤ 2000
  pub small : rows * columns ≤ 1_048_576

-- ---- keys

-- the rows of these keys, without fields
abbrev pub bare : List Key → List Numbered
bare keys = rows_from [] [] 0 keys

abbrev pub no_key : Key
no_key = record { time = pos 0; batch = 0; place = 0 }

abbrev pub number_in : Key → ℕ × ℕ
number_in key = (key.batch, key.place)

pub record IsFitKey (key : Key) : Type 0 where
  pub late : not (int_lt key.time (pos 0)) ≡ true
  pub time : unsigned_abs key.time < 2 ^ 63
  pub batch : key.batch < 2 ^ 64
  pub place : key.place < 2 ^ 32

pub record AreBlockKeys (keys : List Key) : Type 0 where
  pub each : AllByRecursion IsFitKey keys
  pub ordered : are_ordered (bare keys) ≡ true
  pub apart : are_numbered_apart (bare keys) ≡ true

-- ---- columns

-- a name that can be a field's
pub record IsGoodName (name : List ℕ) : Type 0 where
  pub some : is_empty name ≡ false
  pub short : nat_le (length name) 128 ≡ true
  pub free : is_reserved name ≡ false
  pub text : is_utf8 name ≡ true

abbrev pub AreGoodNames : List Column → Type 0
AreGoodNames columns = AllByRecursion (λ (column : Column). IsGoodName column.0) columns

abbrev pub has_text : List ℕ → Bool
has_text value = nat_lt 0 (length value)

-- Some value is not empty, and all together have fewer than 2^32 bytes.
pub record IsFilled (column : Column) : Type 0 where
  pub some : list_any has_text column.1 ≡ true
  pub texts : list_all is_utf8 column.1 ≡ true
  pub small : sum_by length column.1 < 2 ^ 32

-- the head of a block of these keys in this stream, and of this weight
abbrev pub head_by_keys : List Field → List Key → ℕ → List NamedFilter → Outline
head_by_keys labels keys weight columns =
    let extent : Extent = record {
      min = (slice_index_or keys 0 no_key).time;
      max = (slice_index_or keys (length keys - 1) no_key).time;
      rows = length keys;
      weight = weight;
    } in
    outline_with labels extent columns

-- ---- labels

-- the column has the label's name, and its value in each row
abbrev pub is_label : Field → Column → Bool
is_label label column = bytes_eq label.0 column.0 && list_all (bytes_eq label.1) column.1

abbrev pub has_label : List Column → Field → Bool
has_label columns label = list_any (is_label label) columns

-- ---- the sizes of rows

abbrev pub nothing : RowSize
nothing = record { fields = 0; weight = 0 }

-- with a field whose name and value have these lengths
abbrev pub larger : ℕ → RowSize → ℕ → RowSize
larger name size value =
    if nat_lt value 1 then size else record { fields = size.fields + 1; weight = size.weight + (name + value) }

abbrev pub size_from : RowSize → List Column → ℕ → RowSize
size_from size columns i =
    fold (λ size column. larger (length column.0) size (length (slice_index_or column.1 i []))) size columns

-- the size of the row at this place
abbrev pub size_at : List Column → ℕ → RowSize
size_at columns i = size_from nothing columns i

-- the bytes of the fields of all rows
abbrev pub bytes_in : List RowSize → ℕ
bytes_in sizes = sum_by (λ size. size.weight) sizes

-- those of this many rows that the columns say, of which the first is at this place
abbrev pub bytes_from : List Column → ℕ → ℕ → ℕ
bytes_from columns i zero = 0
bytes_from columns i (suc rows) = (size_at columns i).weight + bytes_from columns (suc i) rows

abbrev pub IsWithin : RowSize → Type 0
IsWithin size = (size.fields ≤ size.weight) × (size.weight ≤ 262_144)

abbrev pub AreWithin : List RowSize → Type 0
AreWithin sizes = (i : ℕ) → i < length sizes → IsWithin (slice_index_or sizes i nothing)

-- Each has a field more, if its value is not empty.
abbrev pub AreGrownBy : ℕ → List (List ℕ) → List RowSize → List RowSize → Type 0
AreGrownBy name values old new =
    (i : ℕ) → i < length old
    → slice_index_or new i nothing ≡ larger name (slice_index_or old i nothing) (length (slice_index_or values i []))

abbrev pub AreGrown : Column → List RowSize → List RowSize → Type 0
AreGrown column old new = AreGrownBy (length column.0) column.1 old new

abbrev pub IsNumberFit : RowSize → Type 0
IsNumberFit size = (0 < size.fields) × (size.fields ≤ 1000)

abbrev pub AreNumbersFit : List RowSize → Type 0
AreNumbersFit sizes = (i : ℕ) → i < length sizes → IsNumberFit (slice_index_or sizes i nothing)

-- Each row has fields, not too many, and not too many bytes.
abbrev pub AreLight : ℕ → List Column → Type 0
AreLight rows columns = (i : ℕ) → i < rows → IsWithin (size_at columns i) × IsNumberFit (size_at columns i)
