-- Blocks that follow one another.
use Rattle.std.specs.Prelude.{◌≡◌, ◌-◌, IsTrue, List, Some, false, length, slice_get}
use Rattle.std.specs.List.{AllAdjacentBelow}
use Rattle.log_model.specs.History.{Numbered}
use Rattle.part_model.specs.Filling.{has_room}
use Rattle.part_model.specs.Order.{is_earlier}

-- The last row of the block is earlier than the first of the next one, for which the block has no room.
pub record IsFollowedBy (block next : List Numbered) : Type 0 where
  pub last : Numbered
  pub first : Numbered
  pub ends : slice_get block (length block - 1) ≡ Some last
  pub begins : slice_get next 0 ≡ Some first
  pub earlier : IsTrue (is_earlier last first)
  pub full : has_room block first ≡ false

-- Each block is followed by the next one.
abbrev pub AreFollowed : List (List Numbered) → Type 0
AreFollowed blocks = AllAdjacentBelow IsFollowedBy blocks (length blocks)
