use Rattle.std.proofs.Common.{Ok}
use Rattle.byte_format.specs.Spelling.{reading}
use Rattle.block_format.specs.Reading.{block, block_writing}
use Rattle.block_format.proofs.ReadAgain.{writing-is}
use Rattle.column_block.proofs.FaultLaws.{fault-as, place-as}
use Rattle.column_block.proofs.block.Block.from_bytes.Goals as goal

pub returns-in-Ok-clause-found : goal.returns-in-Ok-clause-found
returns-in-Ok-clause-found c = writing-is c.in-Ok.stored c.args.bytes.now c.in-Ok.ensures.found

pub returns-in-Ok-clause-only : goal.returns-in-Ok-clause-only
returns-in-Ok-clause-only c rows written = c.in-Ok.ensures.only rows written

pub returns-in-Err-clause-only : goal.returns-in-Err-clause-only
returns-in-Err-clause-only c rows written =
    rw c.fault_of.ensures (fault-as c.in-Err.fault c.args.bytes.now (Ok rows) (c.in-Err.ensures.only rows written))

pub returns-in-Err-clause-damaged : goal.returns-in-Err-clause-damaged
returns-in-Err-clause-damaged c =
    rw c.fault_of.ensures (place-as c.in-Err.fault block block_writing c.args.bytes.now c.in-Err.ensures.damaged)

pub returns-in-Err-clause-exact : goal.returns-in-Err-clause-exact
returns-in-Err-clause-exact c =
    rw c.fault_of.ensures (fault-as c.in-Err.fault c.args.bytes.now (reading block block_writing c.args.bytes.now)
    c.in-Err.ensures.exact)
