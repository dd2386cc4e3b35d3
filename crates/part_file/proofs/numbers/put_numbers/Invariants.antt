use Rattle.std.proofs.Common.{◌≡◌, ◌++◌, map, take}
use Rattle.block_format.specs.Rows.{number_of}
use Rattle.part_file.proofs.numbers.put_numbers.Given as goal

abbrev pub invariant-loop-i : goal.invariant-loop-i
invariant-loop-i l = l.numbers.items ≡ l.initial.numbers.items ++ map number_of (take l.i l.block)
