use Rattle.std.proofs.Common.{◌≡◌, false, take}
use Rattle.std.specs.Prelude.{nat_eq}
use Rattle.std.specs.List.{list_any}
use Rattle.col_codec.specs.Lanes.{numbers_in}
use Rattle.col_codec.proofs.lanes.have_zero.Given as goal

abbrev pub invariant-loop-i : goal.invariant-loop-i
invariant-loop-i l = list_any (nat_eq 0) (take l.i (numbers_in l.lanes)) ≡ false
