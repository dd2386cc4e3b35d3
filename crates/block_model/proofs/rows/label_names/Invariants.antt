use Rattle.std.proofs.Common.{◌≡◌, map, take}
use Rattle.block_model.proofs.rows.label_names.Given as goal

abbrev pub invariant-loop-label : goal.invariant-loop-label
invariant-loop-label l = l.names.items ≡ map (λ label. label.0) (take l.label-index l.label-items)
