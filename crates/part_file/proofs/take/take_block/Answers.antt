use Rattle.part_file.proofs.Steps.{sized-steps}
use Rattle.part_file.proofs.take.take_block.Goals as goal

pub returns-clause-items : goal.returns-clause-items
returns-clause-items c = rw (sized-steps c.args.bytes.now) c.take_sized.ensures.items
