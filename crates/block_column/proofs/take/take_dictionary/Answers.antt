use Rattle.block_column.proofs.BodyLaws.{dictionary-steps}
use Rattle.block_column.proofs.take.take_dictionary.Goals as goal

pub returns-clause-value : goal.returns-clause-value
returns-clause-value c = rw (dictionary-steps c.args.rows c.args.bytes.now) c.take_steps.ensures.value
