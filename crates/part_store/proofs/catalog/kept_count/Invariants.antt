use Rattle.std.proofs.Common.{◌≡◌, ◌≤◌, length, map, take}
use Rattle.part_store.specs.State.{kept, listed_of}
use Rattle.part_store.proofs.catalog.kept_count.Given as goal

abbrev pub invariant-loop-stored : goal.invariant-loop-stored
invariant-loop-stored l = record {
  count : l.count ≡ length (kept l.old (map listed_of (take l.stored-index l.parts)));
  small : l.count ≤ l.stored-index;
}
