-- Blocks that need not be opened.
use Rattle.std.specs.Prelude.{◌≡◌, ℤ, Bool, true, false, List, [], filter, flat_map}
use Rattle.std.specs.List.{AllByRecursion, list_all}
use Rattle.log_model.specs.History.{Numbered}
use Rattle.lq_ast.specs.Condition.{Condition}
use Rattle.lq_ast.specs.Holds.{holds}
use Rattle.block_model.specs.Texts.{is_text_row}
use Rattle.block_format.specs.Rows.{IsBlock}
use Rattle.block_body.specs.Outlines.{outline_of}
use Rattle.lq_prune.specs.Need.{admits, need_of}

-- the rows of a block, in UTF-8
pub record IsTextBlock (rows : List Numbered) : Type 0 where
  pub block : IsBlock rows
  pub texts : list_all is_text_row rows ≡ true

-- What is known of the block does not rule it out that one of the rows holds.
abbrev pub is_admitted : ℤ → Condition → List Numbered → Bool
is_admitted now condition rows = admits (need_of now condition) (outline_of rows)

-- those of the rows that hold
abbrev pub rows_that_hold : ℤ → Condition → List Numbered → List Numbered
rows_that_hold now condition rows = filter (λ numbered. holds now condition numbered.row) rows

-- A block that is not admitted has no row that holds.
abbrev pub MissesNone : ℤ → Condition → Type 0
MissesNone now condition =
    (rows : List Numbered) → IsTextBlock rows → is_admitted now condition rows ≡ false
    → rows_that_hold now condition rows ≡ []

-- Of any blocks, the admitted ones have all rows that hold, in the same order.
abbrev pub MissesNoneOfAll : ℤ → Condition → Type 0
MissesNoneOfAll now condition =
    (blocks : List (List Numbered)) → AllByRecursion IsTextBlock blocks
    → rows_that_hold now condition (flat_map (λ rows. rows) (filter (is_admitted now condition) blocks))
    ≡ rows_that_hold now condition (flat_map (λ rows. rows) blocks)
