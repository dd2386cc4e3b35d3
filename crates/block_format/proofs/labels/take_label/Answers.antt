use Rattle.block_format.proofs.Steps.{label-steps}
use Rattle.block_format.proofs.labels.take_label.Goals as goal

pub returns : goal.returns
returns c = rw (label-steps c.args.bytes.now) c.take_pair.ensures
