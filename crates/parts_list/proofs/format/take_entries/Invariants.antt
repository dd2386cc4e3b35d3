use Rattle.std.proofs.Common.{◌≡◌, ◌-◌}
use Rattle.byte_format.specs.Format.{front, many, one_more, repeated}
use Rattle.parts_list.specs.Format.{entry}
use Rattle.parts_list.proofs.format.take_entries.Given as goal

abbrev pub invariant-loop : goal.invariant-loop
invariant-loop l =
    front (repeated (l.count - l.counter) (one_more (entry l.next_file)) l.entries.items) l.rest
    ≡ front (many l.count (entry l.next_file)) l.bytes
