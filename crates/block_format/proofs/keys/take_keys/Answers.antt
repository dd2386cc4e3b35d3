use Rattle.block_format.proofs.Steps.{keys-steps}
use Rattle.block_format.proofs.keys.take_keys.Goals as goal

pub returns-clause-value : goal.returns-clause-value
returns-clause-value c = rw (keys-steps c.args.rows c.args.bytes.now) c.take_steps.ensures.value
