use Rattle.std.proofs.Common.{◌≡◌, take}
use Rattle.block_model.specs.Columns.{names_in}
use Rattle.part_model.proofs.names.have_same_names.Given as goal

abbrev pub invariant-loop-i : goal.invariant-loop-i
invariant-loop-i l = names_in (take l.i l.fields) ≡ names_in (take l.i l.others)
