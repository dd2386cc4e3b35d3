-- What is known of a block of rows that stand in the order of their times.
use Rattle.std.specs.Prelude.{ℕ, ℤ, ◌<◌, ◌≤◌, ◌≤ℤ◌, List, [], ◌∷◌, length, map, pos, slice_index_or, sum_by}
use Rattle.std.specs.List.{All, Contains}
use Rattle.log_model.specs.Field.{Field, weight}
use Rattle.log_model.specs.History.{Numbered}
use Rattle.block_format.specs.Rows.{labels_of}
use Rattle.block_model.specs.Columns.{names_of, values_of}
use Rattle.word_filter.specs.Words.{filter_of}
use Rattle.block_body.specs.Outline.{NamedFilter, Outline}
use Rattle.block_body.specs.declared.head.Extent.{Extent}

abbrev pub first_moment : List Numbered → ℕ
first_moment [] = 0
first_moment (numbered ∷ rows) = numbered.row.moment

abbrev pub last_moment : List Numbered → ℕ
last_moment [] = 0
last_moment (numbered ∷ []) = numbered.row.moment
last_moment (numbered ∷ next ∷ rows) = last_moment (next ∷ rows)

-- the name of a column, and the filter of the words of its values
abbrev pub filter_named : List Numbered → List ℕ → NamedFilter
filter_named rows name = (name, filter_of (values_of rows name))

-- the bytes of the names and the values of all rows
abbrev pub weight_of : List Numbered → ℕ
weight_of rows = sum_by (λ numbered. weight numbered.row.fields) rows

abbrev pub outline_with : List Field → Extent → List NamedFilter → Outline
outline_with labels extent columns = record {
  labels = labels;
  min = extent.min;
  max = extent.max;
  rows = extent.rows;
  weight = extent.weight;
  columns = columns;
}

abbrev pub outline_of : List Numbered → Outline
outline_of rows = record {
  labels = labels_of rows;
  min = pos (first_moment rows);
  max = pos (last_moment rows);
  rows = length rows;
  weight = weight_of rows;
  columns = map (filter_named rows) (names_of rows);
}

abbrev pub time_of : Numbered → ℤ
time_of numbered = pos numbered.row.moment

-- The outline has the least and the greatest time of the rows.
pub record IsSpan (rows : List Numbered) (outline : Outline) : Type 0 where
  pub least : All (λ numbered. outline.min ≤ℤ time_of numbered) rows
  pub greatest : All (λ numbered. time_of numbered ≤ℤ outline.max) rows
  pub first : Contains (map time_of rows) outline.min
  pub last : Contains (map time_of rows) outline.max

-- No time is above a later one.
abbrev pub DoNotFall : List ℤ → Type 0
DoNotFall times =
    (i j : ℕ) (time : ℤ) → i ≤ j → j < length times → slice_index_or times i time ≤ℤ slice_index_or times j time
