use Rattle.std.proofs.Common.{◌≡◌, max, take}
use Rattle.std.specs.List.{fold}
use Rattle.col_codec.specs.Lanes.{numbers_in}
use Rattle.col_codec.proofs.lanes.most_of.Given as goal

abbrev pub invariant-loop-i : goal.invariant-loop-i
invariant-loop-i l = l.most ≡ fold max 0 (take l.i (numbers_in l.lanes))
