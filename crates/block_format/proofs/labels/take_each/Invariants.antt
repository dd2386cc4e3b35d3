use Rattle.std.proofs.Common.{◌≡◌, ◌-◌}
use Rattle.byte_format.specs.Format.{front, many, one_more, repeated}
use Rattle.block_format.specs.Labels.{label}
use Rattle.block_format.proofs.labels.take_each.Given as goal

abbrev pub invariant-loop : goal.invariant-loop
invariant-loop l =
    front (repeated (l.count - l.counter) (one_more label) l.labels.items) l.rest ≡ front (many l.count label) l.bytes
