use Rattle.std.proofs.Common.{◌≡◌, ◌++◌, map, take}
use Rattle.std.specs.List.{All}
use Rattle.part_store.specs.Preparing.{IsPlaced, placed_part}
use Rattle.part_store.specs.State.{added, day_part_of}
use Rattle.part_store.proofs.prepare.add_parts.Given as goal

abbrev pub invariant-loop-i : goal.invariant-loop-i
invariant-loop-i l = record {
  parts : map placed_part l.placed.items
      ≡ map placed_part l.initial.placed.items ++ added l.next_file (map day_part_of (take l.i l.new));
  placed : All IsPlaced l.initial.placed.items → All IsPlaced l.placed.items;
}
