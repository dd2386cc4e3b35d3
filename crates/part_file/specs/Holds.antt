-- How a part holds its rows.
use Rattle.std.specs.Prelude.{◌≡◌, ℕ, List, length}
use Rattle.log_model.specs.History.{Numbered}
use Rattle.part_model.specs.Filling.{AreFilled, rows_in_blocks}
use Rattle.part_model.specs.Part.{IsPart, rows_weight}

-- The rows of the blocks are those of a part, and the blocks are filled with them. So many rows there are, and so much
-- they weigh.
pub record HoldsPart (blocks : List (List Numbered)) (rows weight : ℕ) : Type 0 where
  pub part : IsPart (rows_in_blocks blocks)
  pub filled : AreFilled blocks (rows_in_blocks blocks)
  pub count : rows ≡ length (rows_in_blocks blocks)
  pub sum : weight ≡ rows_weight (rows_in_blocks blocks)
