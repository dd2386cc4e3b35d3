-- How rows in order are filled into blocks.
use Rattle.std.specs.Prelude.{◌≡◌, Bool, false, ◌&&◌, ◌*◌, nat_le, List, [], ◌∷◌, ◌++◌, length, if◌then◌else◌}
use Rattle.std.specs.List.{AllByRecursion, flat_map}
use Rattle.log_model.specs.History.{Numbered}
use Rattle.block_model.specs.Columns.{names_of}
use Rattle.block_format.specs.Reading.{same_fields}
use Rattle.block_format.specs.Rows.{IsBlock, labels_of}

-- the limits of a block: 4,096 rows, 2,000 columns, 1,048,576 cells
abbrev pub is_within : List Numbered → Bool
is_within rows =
    nat_le (length rows) 4096
    && (nat_le (length (names_of rows)) 2000 && nat_le (length rows * length (names_of rows)) 1_048_576)

-- The block may have this row after its own.
unfoldable pub has_room : List Numbered → Numbered → Bool
has_room block row = same_fields row.row.labels (labels_of block) && is_within (block ++ row ∷ [])

-- the rows of the blocks, one block after another
abbrev pub rows_in_blocks : List (List Numbered) → List Numbered
rows_in_blocks blocks = flat_map (λ block. block) blocks

-- The block has no room for the first of the rows that follow.
abbrev pub IsFull : List Numbered → List Numbered → Type 0
IsFull block [] = Unit {0}
IsFull block (row ∷ rows) = has_room block row ≡ false

-- Each block is full, where these rows follow the last one.
abbrev pub AreFull : List (List Numbered) → List Numbered → Type 0
AreFull [] rows = Unit {0}
AreFull (block ∷ blocks) rows = IsFull block (rows_in_blocks blocks ++ rows) × AreFull blocks rows

-- The rows are those of the blocks, and each block was filled before the next one began.
pub record AreFilled (blocks : List (List Numbered)) (rows : List Numbered) : Type 0 where
  pub all : rows_in_blocks blocks ≡ rows
  pub each : AllByRecursion IsBlock blocks
  pub full : AreFull blocks []

-- the blocks of rows that follow this one, which is filled first
abbrev pub filled_from : List Numbered → List Numbered → List (List Numbered)
filled_from block [] = block ∷ []
filled_from block (row ∷ rows) =
    if has_room block row then filled_from (block ++ row ∷ []) rows else block ∷ filled_from (row ∷ []) rows

-- the blocks of rows in order: a new one begins with a new stream, or where a limit would be passed
abbrev pub blocks_of : List Numbered → List (List Numbered)
blocks_of [] = []
blocks_of (row ∷ rows) = filled_from (row ∷ []) rows
