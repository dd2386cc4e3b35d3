use Rattle.parts_list.proofs.StepLemmas.{slot-steps}
use Rattle.parts_list.proofs.format.ListSpelled.take.Goals as goal

pub returns-clause-items : goal.returns-clause-items
returns-clause-items c = rw (slot-steps c.args.bytes.now) c.take_slot.ensures
