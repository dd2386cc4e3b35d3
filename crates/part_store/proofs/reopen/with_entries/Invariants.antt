use Rattle.std.proofs.Common.{◌≡◌, map, take}
use Rattle.std.specs.Arc.{arc_value}
use Rattle.part_store.specs.Reopening.{listed_with}
use Rattle.part_store.specs.State.{listed_of}
use Rattle.part_store.proofs.reopen.with_entries.Given as goal

abbrev pub invariant-loop-i : goal.invariant-loop-i
invariant-loop-i l = map listed_of l.stored.items ≡ listed_with (take l.i l.entries) (map arc_value (take l.i l.parts))
