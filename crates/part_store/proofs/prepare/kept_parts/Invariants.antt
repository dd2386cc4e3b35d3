use Rattle.std.proofs.Common.{◌≡◌, map, take}
use Rattle.std.specs.List.{All}
use Rattle.part_store.specs.Preparing.{IsPlaced, placed_part}
use Rattle.part_store.specs.State.{kept, listed_of}
use Rattle.part_store.proofs.prepare.kept_parts.Given as goal

abbrev pub invariant-loop-i : goal.invariant-loop-i
invariant-loop-i l = record {
  parts : map placed_part l.placed.items ≡ kept l.old (map listed_of (take l.i l.catalog.parts.items));
  placed : All IsPlaced l.placed.items;
}
