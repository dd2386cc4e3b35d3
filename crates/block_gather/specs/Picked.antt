-- Rows that are picked out of blocks.
use Rattle.std.specs.Prelude.{ℕ, List}
use Rattle.std.specs.List.{flat_map, slice_range}
use Rattle.log_model.specs.History.{Numbered}

-- the rows of a block, and the places from which and up to which they are picked
pub record Picked : Type 0 where
  pub block : List Numbered
  pub from : ℕ
  pub to : ℕ

abbrev pub picked : List Numbered → ℕ → ℕ → Picked
picked block from to = record { block = block; from = from; to = to }

-- those from the one place up to the other, without the row there
abbrev pub rows_of : Picked → List Numbered
rows_of pick = slice_range pick.block pick.from pick.to

-- those of all picks, one pick after another
abbrev pub rows_picked : List Picked → List Numbered
rows_picked picks = flat_map rows_of picks
