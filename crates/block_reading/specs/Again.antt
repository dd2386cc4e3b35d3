-- What is written of a block is read again.
use Rattle.byte_format.specs.Spelling.{IsReadAgain}
use Rattle.block_format.specs.Reading.{block, block_writing}
use Rattle.block_format.proofs.ReadAgain.{is_read_again as again}

pub is_read_again : IsReadAgain block block_writing
is_read_again = again
