use Rattle.block_format.proofs.Steps.{column-steps}
use Rattle.block_format.proofs.columns.take_column.Goals as goal

pub returns-clause-value : goal.returns-clause-value
returns-clause-value c = rw (column-steps c.args.rows c.args.bytes.now) c.take_steps.ensures.value
