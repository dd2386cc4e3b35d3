use Rattle.std.proofs.Common.{map, sym, ◌∙◌}
use Rattle.log_model.specs.Field.{field_value}
use Rattle.log_model.specs.Order.{key_of}
use Rattle.lq_tuple.proofs.Lists.{map_twice}
use Rattle.lq_order.proofs.Columns.{mirrors_keyed}
use Rattle.lq_order.proofs.values.Values.keyed.Goals as goal

pub returns : goal.returns
returns c =
    let name = c.args.name.now in
    mirrors_keyed c.in_ok-keys.field-0.items (map (λ r. field_value r name) c.args.records.now)
    (c.in_ok-keys.ensures ∙ sym (map_twice (λ r. field_value r name) key_of c.args.records.now))
