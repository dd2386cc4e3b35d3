use Rattle.std.proofs.Common.{◌≡◌, map, take}
use Rattle.log_model.specs.Field.{field_value}
use Rattle.lq_order.proofs.values.texts.Given as goal

abbrev pub invariant-loop-record : goal.invariant-loop-record
invariant-loop-record l =
    map (λ text. text.now) l.texts.items ≡ map (λ r. field_value r l.name) (take l.record-index l.records)
