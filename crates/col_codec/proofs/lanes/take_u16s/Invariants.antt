use Rattle.std.proofs.Common.{◌≡◌, ◌-◌}
use Rattle.std.specs.Int.{w16}
use Rattle.byte_format.specs.Format.{front, repeated, one_more, many}
use Rattle.byte_format.specs.Items.{number}
use Rattle.col_codec.proofs.lanes.take_u16s.Given as goal

abbrev pub invariant-loop : goal.invariant-loop
invariant-loop l =
    front (repeated (l.count - l.counter) (one_more (number w16)) l.numbers.items) l.rest
    ≡ front (many l.count (number w16)) l.bytes
