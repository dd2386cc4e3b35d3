use Rattle.std.proofs.Common.{◌≡◌, ◌++◌, drop, map, take}
use Rattle.col_codec.specs.Between.{is_number_between}
use Rattle.col_codec.proofs.mask.mark_u8s.Given as goal

abbrev pub invariant-loop-i : goal.invariant-loop-i
invariant-loop-i l = l.marks ≡ map (is_number_between l.low l.high) (take l.i l.numbers) ++ drop l.i l.initial.marks
