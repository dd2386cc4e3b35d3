-- The blocks of a part as bytes, and as a format: their number, and of each block its length and its bytes.
use Rattle.std.specs.Prelude.{ℕ, List, ◌++◌, length, Result}
use Rattle.std.specs.Int.{w32, to_le_bytes}
use Rattle.std.specs.List.{flat_map}
use Rattle.byte_format.specs.Format.{Format, followed, many, front, ◌>>=◌}
use Rattle.byte_format.specs.Items.{number}
use Rattle.byte_format.specs.Windows.{inside}
use Rattle.log_model.specs.History.{Numbered}
use Rattle.block_format.specs.Reading.{block}
use Rattle.block_format.specs.Spelling.{block_bytes}

unfoldable pub sized_block_bytes : List Numbered → List ℕ
sized_block_bytes rows = to_le_bytes w32 (length (block_bytes rows)) ++ block_bytes rows

unfoldable pub blocks_bytes : List (List Numbered) → List ℕ
blocks_bytes blocks = to_le_bytes w32 (length blocks) ++ flat_map sized_block_bytes blocks

unfoldable pub sized_block : Format (List Numbered)
sized_block = followed (number w32) (λ size. inside size block)

unfoldable pub counted_blocks : Format (List (List Numbered))
counted_blocks = followed (number w32) (λ count. many count sized_block)

-- the same, one step after another
unfoldable pub sized_block_steps : List ℕ → Result (List Numbered × List ℕ) ℕ
sized_block_steps bytes = do
  size ← front (number w32) bytes
  front (inside size.0 block) size.1

unfoldable pub counted_blocks_steps : List ℕ → Result (List (List Numbered) × List ℕ) ℕ
counted_blocks_steps bytes = do
  count ← front (number w32) bytes
  front (many count.0 sized_block) count.1
