use Rattle.std.proofs.Common.{◌≡◌, map, take}
use Rattle.log_model.specs.Field.{field_value}
use Rattle.lq_plain.proofs.tuple.tuple_of.Given as goal

abbrev pub invariant-loop-name : goal.invariant-loop-name
invariant-loop-name l = l.tuple.items ≡ map (field_value l.fields) (take l.name-index l.names)
