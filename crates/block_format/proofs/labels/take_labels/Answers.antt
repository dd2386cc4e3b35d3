use Rattle.block_format.proofs.Steps.{labels-steps}
use Rattle.block_format.proofs.labels.take_labels.Goals as goal

pub returns : goal.returns
returns c = rw (labels-steps c.args.bytes.now) c.take_counted.ensures
