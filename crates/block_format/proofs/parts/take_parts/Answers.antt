use Rattle.block_format.proofs.Steps.{parts-steps}
use Rattle.block_format.proofs.parts.take_parts.Goals as goal

pub returns-clause-value : goal.returns-clause-value
returns-clause-value c = rw (parts-steps c.args.bytes.now) c.take_steps.ensures.value
