-- A part as bytes, and as a format. A second version of the format adds an item to a column.
use Rattle.std.specs.Prelude.{ℕ, ◌^◌, ◌==◌, ◌&&◌, Bool, List, [], ◌∷◌, ◌++◌, length, nat_le, nat_lt, bytes_eq, codes}
use Rattle.std.specs.Prelude.{Option, Some, None, Result, if◌then◌else◌}
use Rattle.std.specs.Int.{w16, to_le_bytes}
use Rattle.std.specs.List.{list_all}
use Rattle.byte_format.specs.Format.{Format, value, item, exactly, followed, front, ◌>>=◌}
use Rattle.byte_format.specs.Items.{number_that}
use Rattle.log_model.specs.History.{Numbered}
use Rattle.log_model.specs.Row.{batch_limit}
use Rattle.block_format.specs.Reading.{all_hold, has_spelling}
use Rattle.block_format.specs.Rows.{are_numbered_apart}
use Rattle.block_format.specs.Spelling.{block_bytes}
use Rattle.part_model.specs.Filling.{blocks_of, rows_in_blocks}
use Rattle.part_model.specs.Order.{are_in_order, in_order}
use Rattle.part_model.specs.Part.{rows_weight}
use Rattle.part_file.specs.Blocks.{blocks_bytes, counted_blocks, counted_blocks_steps}

-- one item of exactly these bytes
abbrev pub these_bytes : List ℕ → Format (List ℕ)
these_bytes bytes = item (exactly (length bytes)) (λ found. bytes_eq found bytes) value

abbrev pub magic : List ℕ
magic = codes "VLPART"

abbrev pub is_version : ℕ → Bool
is_version version = version == 1

unfoldable pub head_bytes : List ℕ
head_bytes = magic ++ to_le_bytes w16 1

unfoldable pub part_bytes : List Numbered → List ℕ
part_bytes rows = head_bytes ++ blocks_bytes (blocks_of rows)

-- The block has a spelling, and its length can be written.
abbrev pub is_sized : List Numbered → Bool
is_sized block = has_spelling block && nat_lt (length (block_bytes block)) (2 ^ 32)

-- `IsPart` as a test, of rows that can be written
abbrev pub part_tests : List Numbered → List Bool
part_tests rows =
    nat_lt 0 (length rows)
    ∷ are_numbered_apart rows
    ∷ nat_le (rows_weight rows) batch_limit
    ∷ are_in_order rows
    ∷ list_all is_sized (blocks_of rows)
    ∷ nat_lt (length (blocks_of rows)) (2 ^ 32)
    ∷ []

unfoldable pub is_part : List Numbered → Bool
is_part rows = all_hold (part_tests rows)

-- the spelling of the rows of a part
abbrev pub part_writing : List Numbered → Option (List ℕ)
part_writing rows = if is_part rows then Some (part_bytes rows) else None

-- the magic, the version, and the blocks, as the rows that their items say
unfoldable pub part_blocks : Format (List (List Numbered))
part_blocks = followed (these_bytes magic) (λ magic. followed (number_that w16 is_version) (λ version. counted_blocks))

-- all rows in order, and none where the rows of a block have no spelling as a block
unfoldable pub rows_said : List (List Numbered) → List Numbered
rows_said blocks = if list_all has_spelling blocks then in_order (rows_in_blocks blocks) else []

-- a part as a format, whose value is its rows
unfoldable pub part : Format (List Numbered)
part = followed part_blocks (λ blocks. value (rows_said blocks))

-- the same, one step after another
unfoldable pub part_blocks_steps : List ℕ → Result (List (List Numbered) × List ℕ) ℕ
part_blocks_steps bytes = do
  name ← front (these_bytes magic) bytes
  version ← front (number_that w16 is_version) name.1
  counted_blocks_steps version.1
