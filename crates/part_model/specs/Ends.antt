-- Where the first block of rows ends.
use Rattle.std.specs.Prelude.{◌≡◌, ℕ, ◌<◌, ◌≤◌, IsTrue, List, length, take, drop}
use Rattle.std.specs.List.{AllByRecursion}
use Rattle.log_model.specs.History.{Numbered}
use Rattle.block_format.specs.Rows.{labels_of}
use Rattle.part_model.specs.Filling.{IsFull, is_within}

-- So many of the rows fill a block, which has no room for the next one.
pub record EndsBlock (rows : List Numbered) (count : ℕ) : Type 0 where
  pub some : 0 < count
  pub there : count ≤ length rows
  pub within : IsTrue (is_within (take count rows))
  pub stream : AllByRecursion (λ (numbered : Numbered). numbered.row.labels ≡ labels_of rows) (take count rows)
  pub full : IsFull (take count rows) (drop count rows)
