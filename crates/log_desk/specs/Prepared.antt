-- A batch that is held as the part of its rows.
use Rattle.std.specs.Prelude.{List}
use Rattle.log_model.specs.History.{Numbered}
use Rattle.log_model.specs.Row.{Batch}
use Rattle.log_core.specs.Entries.{batch_of, entry_rows_of}

-- the batch that these rows are of, which may be in any order
abbrev pub batch_in : List Numbered → Batch
batch_in rows = batch_of (entry_rows_of rows)
