-- The fields of a row that is lent, cell by cell.
use Rattle.std.specs.Prelude.{◌≡◌, ℕ, ◌+◌, ◌<◌, List, [], ◌∷◌, ◌++◌, drop, filter, length}
use Rattle.log_model.specs.Field.{Field}
use Rattle.lent_row.specs.Cells.{cell_at, has_value}
use Rattle.lq_pipes.specs.Merge.{fields_before, fields_from}

-- those of these cells that have a value
abbrev pub fields_among : List Field → List Field
fields_among cells = filter has_value cells

abbrev pub fields_behind : ℕ → List Field → List Field
fields_behind place cells = fields_among (drop place cells)

-- The cell at the place stands before the place of the name: its field, if it is one, is the next of those before the
-- name.
pub record StepsOver (name : List ℕ) (cells : List Field) (place : ℕ) (cell : Field) : Type 0 where
  pub within : place < length cells
  pub first : fields_before name (fields_behind place cells)
      ≡ fields_among (cell ∷ []) ++ fields_before name (fields_behind (place + 1) cells)
  pub rest : fields_from name (fields_behind place cells) ≡ fields_from name (fields_behind (place + 1) cells)
