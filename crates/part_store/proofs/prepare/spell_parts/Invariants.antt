use Rattle.std.proofs.Common.{◌≡◌, map, take}
use Rattle.std.specs.Prelude.{vec_items}
use Rattle.std.specs.List.{AllByRecursion}
use Rattle.part_store.specs.Preparing.{IsSpelled, files_of}
use Rattle.part_store.specs.State.{day_part_of}
use Rattle.part_store.proofs.prepare.spell_parts.Given as goal

abbrev pub invariant-loop-i : goal.invariant-loop-i
invariant-loop-i l = record {
  files : map vec_items l.files.items ≡ files_of (map day_part_of (take l.i l.new));
  spelled : AllByRecursion IsSpelled (map day_part_of (take l.i l.new));
}
