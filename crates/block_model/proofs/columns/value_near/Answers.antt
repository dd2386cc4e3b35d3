use Rattle.std.proofs.Common.{length, ap, arith, ◌∙◌}
use Rattle.log_model.specs.Field.{field_value}
use Rattle.block_model.proofs.Sizes.{value-size}
use Rattle.block_model.proofs.columns.value_near.Goals as goal

pub returns-in-Some-clause-size : goal.returns-in-Some-clause-size
returns-in-Some-clause-size c =
    let value = c.in-Some.ensures ∙ ap (λ fields. field_value fields c.args.name.now) c.fields-fields.ensures.value in
    omega (arith, ap length value, value-size c.numbered.inside.row.now.fields c.args.name.now, c.fields-fields.ensures.rules.light)

pub returns-in-None-clause-size : goal.returns-in-None-clause-size
returns-in-None-clause-size c =
    let value = c.value_sought.ensures ∙ ap (λ fields. field_value fields c.args.name.now) c.fields-fields.ensures.value in
    omega (arith, ap length value, value-size c.numbered.inside.row.now.fields c.args.name.now, c.fields-fields.ensures.rules.light)
