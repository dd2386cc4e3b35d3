use Rattle.std.proofs.Common.{◌≡◌, ◌++◌, map, take}
use Rattle.log_model.specs.Field.{field_value}
use Rattle.lq_plain.proofs.values.push_values.Given as goal

abbrev pub invariant-loop-fields : goal.invariant-loop-fields
invariant-loop-fields l =
    l.made.items ≡ l.initial.made.items ++ map (λ r. field_value r l.name) (take l.fields-index l.records)
