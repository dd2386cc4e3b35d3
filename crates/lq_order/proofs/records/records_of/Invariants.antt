use Rattle.std.proofs.Common.{◌≡◌, map, take}
use Rattle.lq_tuple.specs.Groups.{keyed_group}
use Rattle.lq_order.specs.Groups.{counted_group}
use Rattle.lq_order.proofs.records.records_of.Given as goal

abbrev pub invariant-loop-keyed : goal.invariant-loop-keyed
invariant-loop-keyed l =
    l.records.items
    ≡ map (counted_group (map (λ text. text.now) l.texts.items) l.counted) (map keyed_group (take l.keyed-index l.groups))
