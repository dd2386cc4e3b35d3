use Rattle.std.proofs.Common.{◌≡◌, ◌≤◌, length, take, true}
use Rattle.std.specs.List.{list_all}
use Rattle.block_reading.specs.ByColumns.{has_label}
use Rattle.block_reading.proofs.labels.have_labels.Given as goal

abbrev pub invariant-loop-label : goal.invariant-loop-label
invariant-loop-label l = list_all (has_label l.columns) (take l.label-index l.labels) ≡ true
