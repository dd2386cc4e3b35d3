use Rattle.std.proofs.Common.{◌≡◌, take}
use Rattle.log_model.specs.History.{numbered_in}
use Rattle.part_file.proofs.filled.lent_rows.Given as goal

abbrev pub invariant-loop-place : goal.invariant-loop-place
invariant-loop-place l = l.lent.items ≡ numbered_in 0 (take l.place l.rows)
