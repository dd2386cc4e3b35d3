use Rattle.std.proofs.Common.{◌≡◌, take}
use Rattle.col_codec.proofs.lanes.to_u32s.Given as goal

abbrev pub invariant-loop-n : goal.invariant-loop-n
invariant-loop-n l = l.narrow.items ≡ take l.n-index l.numbers
