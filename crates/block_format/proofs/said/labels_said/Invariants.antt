use Rattle.std.proofs.Common.{◌≡◌, [], take}
use Rattle.log_model.specs.Field.{set_all}
use Rattle.block_format.proofs.said.labels_said.Given as goal

abbrev pub invariant-loop-label : goal.invariant-loop-label
invariant-loop-label l = l.said ≡ set_all [] (take l.label-index l.labels)
