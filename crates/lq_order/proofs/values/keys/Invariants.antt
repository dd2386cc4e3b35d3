use Rattle.std.proofs.Common.{◌≡◌, map, take}
use Rattle.log_model.specs.Field.{field_value}
use Rattle.log_model.specs.Order.{key_of}
use Rattle.lq_order.proofs.values.keys.Given as goal

abbrev pub invariant-loop-record : goal.invariant-loop-record
invariant-loop-record l =
    l.keys.items ≡ map (λ r. key_of (field_value r l.name)) (take l.record-index l.records)
