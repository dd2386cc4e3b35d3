-- The columns of a block as bytes, and as a format.
use Rattle.std.specs.Prelude.{◌≡◌, ◌<◌, ℕ, List, [], ◌∷◌, ◌++◌, length, Result}
use denote.Ref.{Bor}
use Rattle.std.specs.List.{AllByRecursion}
use Rattle.std.specs.List.Sorted.{IsStrictlySortedBy}
use Rattle.std.specs.Map.{keys_of}
use Rattle.std.specs.declared.cmp.Ordering.{Ordering}
use Rattle.std.specs.Int.{w16}
use Rattle.block_column.specs.Body.{body, kind_item}
use Rattle.block_column.specs.Kinds.{body_of, code_of_kind, kind_of}
use Rattle.byte_format.specs.Format.{Format, value, followed, front, ◌>>=◌}
use Rattle.byte_format.specs.Items.{text}
use Rattle.byte_format.specs.Written.{text_bytes}
use Rattle.block_model.specs.Columns.{Column}
use Rattle.log_model.specs.Field.{bytes_cmp}
use Rattle.word_filter.specs.Words.{counted_filter, filter_item, filter_of}

-- a column of this many rows
abbrev pub HasRows : ℕ → Column → Type 0
HasRows rows named = length named.1 ≡ rows

-- a name and values that are lent
abbrev pub LentColumn : Type 0
LentColumn = Bor (List ℕ) × Bor (List (List ℕ))

abbrev pub lent_column : LentColumn → Column
lent_column c = (c.0.now, c.1.now)

-- the order of their names
abbrev pub text_cmp : Bor (List ℕ) → Bor (List ℕ) → Ordering
text_cmp a b = bytes_cmp a.now b.now

-- It has a name, and a value in each of this many rows.
abbrev pub IsWhole : ℕ → LentColumn → Type 0
IsWhole rows c = (0 < length c.0.now) × (length c.1.now ≡ rows)

-- They are in the order of their names, each name once, and each is whole.
pub record AreSaid (rows : ℕ) (columns : List LentColumn) : Type 0 where
  pub ordered : IsStrictlySortedBy text_cmp (keys_of columns)
  pub whole : AllByRecursion (IsWhole rows) columns

-- the name, the kind, the filter of the words, and the body
unfoldable pub column_bytes : Column → List ℕ
column_bytes column =
    text_bytes w16 column.0
    ++ ((code_of_kind (kind_of column.1) ∷ []) ++ (counted_filter (filter_of column.1) ++ body_of
    (kind_of column.1) column.1))

-- Of a column that is read the filter is not kept.
unfoldable pub column : ℕ → Format Column
column rows =
    followed (text w16) (λ name. followed kind_item (λ kind. followed filter_item (λ filter.
    followed (body rows kind) (λ values. value (name, values)))))

-- the same, one step after another
unfoldable pub column_steps : ℕ → List ℕ → Result (Column × List ℕ) ℕ
column_steps rows bytes = do
  name ← front (text w16) bytes
  kind ← front kind_item name.1
  filter ← front filter_item kind.1
  values ← front (body rows kind.0) filter.1
  front (value (name.0, values.0)) values.1
