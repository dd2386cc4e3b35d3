use Rattle.word_filter.proofs.FilterLaws.{filter-steps}
use Rattle.word_filter.proofs.take_filter.Goals as goal

pub returns : goal.returns
returns c = rw (filter-steps c.args.bytes.now) c.take_steps.ensures
