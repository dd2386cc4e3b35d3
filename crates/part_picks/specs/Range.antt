-- Rows of a block that stand next to each other.
use Rattle.std.specs.Prelude.{◌≡◌, ℕ, ◌<◌, ◌≤◌, List, length}
use Rattle.std.specs.List.{AllByRecursion}
use Rattle.log_model.specs.Field.{Field}
use Rattle.log_model.specs.History.{Numbered}
use Rattle.block_format.specs.Rows.{IsBlock}

-- The rows are those of a block, and at least one of them is in the range.
pub record IsRange (rows : List Numbered) (from to : ℕ) : Type 0 where
  pub block : IsBlock rows
  pub some : from < to
  pub there : to ≤ length rows

-- All rows are of the stream with these labels.
abbrev pub AreOfStream : List Field → List Numbered → Type 0
AreOfStream labels rows = AllByRecursion (λ (numbered : Numbered). numbered.row.labels ≡ labels) rows
