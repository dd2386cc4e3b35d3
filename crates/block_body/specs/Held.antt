-- How a block holds its rows.
use Rattle.std.specs.Prelude.{◌≡◌, ◌<◌, ◌^◌, ℕ, ℤ, List, [], ◌∷◌, length, map, pos, replicate, slice_index}
use Rattle.std.specs.Prelude.{slice_index_or, true}
use Rattle.std.specs.Arc.{arc_value}
use Rattle.std.specs.List.{AllByRecursion, list_all}
use Rattle.log_model.specs.History.{Numbered}
use Rattle.block_model.specs.Columns.{Column, names_of, rows_from, values_of}
use Rattle.block_model.specs.Keys.{IsNumbered, keys_of}
use Rattle.block_model.specs.Texts.{is_text_row}
use Rattle.block_model.specs.declared.keys.Key.{Key}
use Rattle.word_filter.specs.Words.{filter_of}
use Rattle.block_format.specs.Keys.{zipped}
use Rattle.block_body.specs.declared.body.Batches.{Batches}
use Rattle.block_body.specs.declared.body.Batches.TheVariants as batches
use Rattle.block_body.specs.declared.body.Body.{Body}
use Rattle.block_body.specs.Outline.{NamedFilter, Outline}
use Rattle.block_body.specs.Outlines.{outline_of}
use Rattle.block_format.specs.Rows.{IsBlock}

-- the names, and the values that stand beside them
abbrev pub columns_in : List NamedFilter → List (List (List ℕ)) → List Column
columns_in [] columns = []
columns_in (head ∷ heads) [] = []
columns_in (head ∷ heads) (values ∷ columns) = (head.0, values) ∷ columns_in heads columns

-- Each name can be written, and each filter is that of the words of the values beside it.
abbrev pub AreFilters : List NamedFilter → List (List (List ℕ)) → Type 0
AreFilters [] columns = Unit {0}
AreFilters (head ∷ heads) [] = Unit {0}
AreFilters (head ∷ heads) (values ∷ columns) =
    (length head.0 < 2 ^ 16) × (head.1 ≡ filter_of values) × AreFilters heads columns

abbrev pub rows_in : Outline → List Key → List (List (List ℕ)) → List Numbered
rows_in head keys columns = rows_from head.labels (columns_in head.columns columns) 0 keys

-- the number of the batch of each row
abbrev pub numbers_in : ℕ → Batches → List ℕ
numbers_in rows (batches.One number) = replicate rows number
numbers_in rows (batches.Each numbers) = (arc_value numbers).items

-- that of the row at this place
abbrev pub batch_at : ℕ → Batches → ℕ
batch_at i (batches.One number) = number
batch_at i (batches.Each numbers) = slice_index (arc_value numbers).items i

-- the key of the row at this place, which is of this batch
abbrev pub key_at : List ℤ → List ℕ → ℕ → ℕ → Key
key_at times places batch i =
    record { time = slice_index_or times i (pos 0); batch = batch; place = slice_index places i }

-- There is one for each row.
abbrev pub IsWide : ℕ → Batches → Type 0
IsWide rows (batches.One number) = Unit {0}
IsWide rows (batches.Each numbers) = length (arc_value numbers).items ≡ rows

abbrev pub keys_in : Body → Batches → List Key
keys_in body numbers = zipped body.times.items (numbers_in (length body.times.items) numbers) body.places.items

-- There are as many places and numbers of batches as times.
pub record AreEven (body : Body) (numbers : Batches) : Type 0 where
  pub places : length body.places.items ≡ length body.times.items
  pub wide : IsWide (length body.times.items) numbers

-- the rows that are held
abbrev pub rows_held : Outline → Body → Batches → List Numbered
rows_held head body numbers = rows_in head (keys_in body numbers) body.columns

-- What is held is that of these rows, which are those of a block.
pub record IsHeld (rows : List Numbered) (head : Outline) (keys : List Key)
    (columns : List (List (List ℕ))) : Type 0 where
  pub block : IsBlock rows
  pub each : AllByRecursion IsNumbered rows
  pub texts : list_all is_text_row rows ≡ true
  pub head_is : head ≡ outline_of rows
  pub keys_are : keys ≡ keys_of rows
  pub columns_are : columns ≡ map (values_of rows) (names_of rows)

-- A block holds rows of a block so.
pub record IsStored (rows : List Numbered) (head : Outline) (body : Body) (numbers : Batches) : Type 0 where
  pub even : AreEven body numbers
  pub held : IsHeld rows head (keys_in body numbers) body.columns
