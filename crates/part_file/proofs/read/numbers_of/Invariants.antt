use Rattle.std.proofs.Common.{◌≡◌, map, take}
use Rattle.block_format.specs.Rows.{number_of}
use Rattle.part_file.proofs.read.numbers_of.Given as goal

abbrev pub invariant-loop-numbered : goal.invariant-loop-numbered
invariant-loop-numbered l = l.numbers.items ≡ map number_of (take l.numbered-index l.rows)
