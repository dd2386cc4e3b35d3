-- How a block is spelled.
use Rattle.std.specs.Prelude.{ℕ, List}
use Rattle.log_model.specs.History.{Numbered}
use Rattle.block_format.specs.Found.{Found}
use Rattle.block_format.specs.Parts.{parts_bytes}
use Rattle.block_model.specs.Columns.{columns_of}
use Rattle.block_model.specs.Keys.{keys_of}
use Rattle.block_format.specs.Rows.{labels_of}

abbrev pub parts_of : List Numbered → Found
parts_of rows = record { labels = labels_of rows; keys = keys_of rows; columns = columns_of rows }

abbrev pub block_bytes : List Numbered → List ℕ
block_bytes rows = parts_bytes (parts_of rows)
