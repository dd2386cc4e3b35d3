-- A part is read one item after another.
use Rattle.std.proofs.Common.{◌≡◌, ℕ, List, ◌∙◌}
use Rattle.std.specs.Int.{w16, w32}
use Rattle.byte_format.specs.Format.{followed, many, front}
use Rattle.byte_format.specs.Items.{number, number_that}
use Rattle.byte_format.specs.Windows.{inside}
use Rattle.byte_format.proofs.Cases.{bind_same}
use Rattle.byte_format.proofs.Readings.{front-followed}
use Rattle.block_format.specs.Reading.{block}
use Rattle.part_file.specs.Blocks.{counted_blocks, counted_blocks_steps, sized_block, sized_block_steps}
use Rattle.part_file.specs.Format.{is_version, magic, part_blocks, part_blocks_steps, these_bytes}

pub sized-steps : (bytes : List ℕ) → front sized_block bytes ≡ sized_block_steps bytes
unfolding sized_block sized_block_steps
sized-steps bytes = front-followed (number w32) (λ size. inside size block) bytes

pub counted-steps : (bytes : List ℕ) → front counted_blocks bytes ≡ counted_blocks_steps bytes
unfolding counted_blocks counted_blocks_steps
counted-steps bytes = front-followed (number w32) (λ count. many count sized_block) bytes

pub part-steps : (bytes : List ℕ) → front part_blocks bytes ≡ part_blocks_steps bytes
unfolding part_blocks part_blocks_steps
part-steps bytes =
    front-followed (these_bytes magic) (λ name. followed (number_that w16 is_version) (λ version. counted_blocks)) bytes
    ∙ bind_same (front (these_bytes magic) bytes) _ _ (λ name.
    front-followed (number_that w16 is_version) (λ version. counted_blocks) name.1
    ∙ bind_same (front (number_that w16 is_version) name.1) _ _ (λ version. counted-steps version.1))
