use Rattle.block_reading.proofs.ReadLaws.{block-read, block-stops}
use Rattle.part_file.proofs.block_rows.BlockRowsSpelled.take.Goals as goal

pub returns-in-Ok-clause-items : goal.returns-in-Ok-clause-items
returns-in-Ok-clause-items c = block-read c.args.bytes.now c.in-Ok.rest.now c.in-Ok.parts c.in-Ok.ensures.value

pub returns-in-Err-clause-items : goal.returns-in-Err-clause-items
returns-in-Err-clause-items c = block-stops c.in-Err.stop c.args.bytes.now c.in-Err.ensures.value
