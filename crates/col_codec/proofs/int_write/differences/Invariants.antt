use Rattle.std.proofs.Common.{◌≡◌, map, take, true}
use Rattle.std.specs.List.{list_all}
use Rattle.col_codec.specs.Ints.{gap, is_i64}
use Rattle.col_codec.proofs.int_write.differences.Given as goal

abbrev pub invariant-loop-n : goal.invariant-loop-n
invariant-loop-n l = record {
  numbers : l.numbers.items ≡ map (gap l.least) (take l.n-index l.ints);
  fits : list_all is_i64 (take l.n-index l.ints) ≡ true;
}
