-- Blocks that were read as their rows.
use Rattle.std.specs.Prelude.{List, length}
use Rattle.std.specs.List.{All}
use Rattle.log_model.specs.History.{Numbered}
use Rattle.block_format.specs.Columns.{HasRows}
use Rattle.block_format.specs.Reading.{rows_said}
use Rattle.part_file.specs.declared.block_rows.BlockRows.{BlockRows}

-- the rows that the items say
abbrev pub rows_of_items : BlockRows → List Numbered
rows_of_items items = rows_said items.parts

-- Each column has a value for each row.
abbrev pub WasRead : BlockRows → Type 0
WasRead items = All (HasRows (length items.parts.keys)) items.parts.columns
