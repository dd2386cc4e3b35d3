use Rattle.std.proofs.Common.{◌≡◌, take}
use Rattle.block_model.specs.Columns.{names_of}
use Rattle.block_gather.proofs.names.have_same_names.Given as goal

abbrev pub invariant-loop-c : goal.invariant-loop-c
invariant-loop-c l = take l.c (names_of l.pick.block) ≡ take l.c (names_of l.other.block)
