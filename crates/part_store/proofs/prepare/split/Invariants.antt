use Rattle.std.proofs.Common.{◌≡◌, map, take}
use Rattle.part_store.specs.Preparing.{placed_part}
use Rattle.part_store.specs.State.{listed_of}
use Rattle.part_store.specs.declared.catalog.Placed.{Placed}
use Rattle.part_store.proofs.prepare.split.Given as goal

abbrev pub invariant-loop-i : goal.invariant-loop-i
invariant-loop-i l = record {
  parts : map listed_of l.parts.items ≡ map placed_part (take l.i l.placed);
  entries : l.entries.items ≡ map (λ (part : Placed). part.entry) (take l.i l.placed);
}
