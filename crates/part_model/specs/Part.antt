-- The rows of a part.
use Rattle.std.specs.Prelude.{ℕ, ◌<◌, ◌≤◌, IsTrue, List, length}
use Rattle.log_model.specs.History.{Numbered, rows_in}
use Rattle.log_model.specs.Row.{batch_limit, batch_weight}
use Rattle.block_format.specs.Rows.{are_numbered_apart}
use Rattle.part_model.specs.Order.{are_in_order}

-- the bytes of the names and values of all rows
abbrev pub rows_weight : List Numbered → ℕ
rows_weight rows = batch_weight (rows_in rows)

-- Rows that may be those of a part, in any order: at least one, each number once, and not too heavy.
pub record ArePartRows (rows : List Numbered) : Type 0 where
  pub some : 0 < length rows
  pub apart : IsTrue (are_numbered_apart rows)
  pub light : rows_weight rows ≤ batch_limit

-- They are in order, too.
pub record IsPart (rows : List Numbered) : Type 0 where
  pub rules : ArePartRows rows
  pub ordered : IsTrue (are_in_order rows)
