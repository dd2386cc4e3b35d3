use Rattle.std.proofs.Common.{◌≡◌, ◌-◌}
use Rattle.byte_format.specs.Format.{front, repeated, one_more, many}
use Rattle.col_codec.specs.Ints.{int_above}
use Rattle.col_codec.specs.Widths.{bits_of}
use Rattle.col_codec.proofs.int_read.take_each.Given as goal

abbrev pub invariant-loop : goal.invariant-loop
invariant-loop l = front (repeated (l.rows - l.counter) (one_more (int_above
    (bits_of l.width) l.least)) l.ints.items) l.rest ≡ front (many l.rows (int_above
    (bits_of l.width) l.least)) l.bytes
