use Rattle.std.specs.List.{AllAdjacentBelow}
use Rattle.part_file.specs.Followed.{IsFollowedBy}
use Rattle.part_file.proofs.followed.are_followed.Given as goal

abbrev pub invariant-loop-i : goal.invariant-loop-i
invariant-loop-i l = AllAdjacentBelow IsFollowedBy l.blocks l.i
