use Rattle.std.proofs.Common.{◌≡◌, ◌++◌, drop, take}
use Rattle.block_format.specs.Reading.{put_row}
use Rattle.block_format.proofs.said.place_of.Given as goal

abbrev pub invariant-loop-i : goal.invariant-loop-i
invariant-loop-i l = put_row l.sorted l.row ≡ take l.i l.sorted ++ put_row (drop l.i l.sorted) l.row
