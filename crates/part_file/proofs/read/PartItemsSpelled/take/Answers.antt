use Rattle.std.proofs.Common.{map}
use Rattle.part_file.specs.Read.{rows_of_items}
use Rattle.part_file.proofs.ReadLaws.{part-read, part-stops}
use Rattle.part_file.proofs.read.PartItemsSpelled.take.Goals as goal

pub returns-in-Ok-clause-items : goal.returns-in-Ok-clause-items
returns-in-Ok-clause-items c =
    part-read c.args.bytes.now c.in-Ok.rest.now (map rows_of_items c.in-Ok.blocks.items) c.in-Ok.ensures.items

pub returns-in-Err-clause-items : goal.returns-in-Err-clause-items
returns-in-Err-clause-items c = part-stops c.in-Err.stop c.args.bytes.now c.in-Err.ensures.items
