use Rattle.part_file.proofs.Steps.{part-steps}
use Rattle.part_file.proofs.take.take_blocks.Goals as goal

pub returns-clause-items : goal.returns-clause-items
returns-clause-items c = rw (part-steps c.args.bytes.now) c.take_steps.ensures.items
