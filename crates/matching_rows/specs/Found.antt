-- Rows that were found, by where they stand.
use Rattle.std.specs.Prelude.{◌≡◌, ◌<◌, Bool, ◌||◌, ◌&&◌, ◌==◌, nat_lt, List, [], length, map, slice_index_or}
use Rattle.std.specs.List.{All}
use Rattle.log_model.specs.History.{Numbered}
use Rattle.column_block.specs.InColumns.{no_row}
use Rattle.matching_rows.specs.declared.found.Found.{Found}

-- the row that stands there
abbrev pub row_there : List (List Numbered) → Found → Numbered
row_there opened found = slice_index_or (slice_index_or opened found.block []) found.row no_row

-- A row stands there, and has these numbers.
pub record IsFound (opened : List (List Numbered)) (found : Found) : Type 0 where
  pub block : found.block < length opened
  pub row : found.row < length (slice_index_or opened found.block [])
  pub batch : found.batch ≡ (row_there opened found).batch
  pub place : found.place ≡ (row_there opened found).place

-- These rows stand there, one after another.
pub record HasFound (opened : List (List Numbered)) (rows : List Numbered) (found : List Found) : Type 0 where
  pub rows_there : map (row_there opened) found ≡ rows
  pub each : All (IsFound opened) found

-- by batch, and then by place
abbrev pub comes_before : Found → Found → Bool
comes_before f g = nat_lt f.batch g.batch || ((f.batch == g.batch) && nat_lt f.place g.place)
