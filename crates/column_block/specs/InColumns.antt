-- A row that lies in the columns of a block.
use Rattle.std.specs.Prelude.{ℕ, List, [], map, slice_index_or}
use Rattle.log_model.specs.Field.{Field, field_value}
use Rattle.log_model.specs.History.{Numbered}
use Rattle.block_model.specs.Columns.{names_of}

-- a row with its numbers, and the names of the columns
pub record InColumns : Type 0 where
  pub numbered : Numbered
  pub names : List (List ℕ)

-- the name of each column, with the value of the row, which may be empty
abbrev pub cells_in : InColumns → List Field
cells_in row = map (λ name. (name, field_value row.numbered.row.fields name)) row.names

-- what stands for a row where there is none
abbrev pub no_row : Numbered
no_row = record { batch = 0; place = 0; row = record { moment = 0; labels = []; fields = [] } }

-- the row at a place, in the columns of all rows
abbrev pub row_at : List Numbered → ℕ → InColumns
row_at rows i = record { numbered = slice_index_or rows i no_row; names = names_of rows }
