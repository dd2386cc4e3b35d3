-- The first of the rows that are left.
use Rattle.std.specs.Prelude.{◌≡◌, ◌⊎◌, ◌<◌, List, [], ◌++◌, length}
use Rattle.log_model.specs.History.{Numbered}

-- The rows are the first of all, more than fill a block, or they are all.
abbrev pub AreAhead : List Numbered → List Numbered → Type 0
AreAhead rows all = (left : List Numbered) × (rows ++ left ≡ all) × ((4096 < length rows) ⊎ (left ≡ []))
