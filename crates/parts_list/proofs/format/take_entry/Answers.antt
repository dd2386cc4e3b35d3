use Rattle.parts_list.proofs.StepLemmas.{entry-steps}
use Rattle.parts_list.proofs.format.take_entry.Goals as goal

pub returns : goal.returns
returns c = rw (entry-steps c.args.next_file c.args.bytes.now) c.take_numbers.ensures
