use Rattle.std.proofs.Common.{◌≡◌, ◌∙◌, ap, arith, length, sym}
use Rattle.std.specs.List.{list_all}
use Rattle.block_model.specs.Columns.{names_in}
use Rattle.block_model.specs.Texts.{is_text_field}
use Rattle.block_body.proofs.NamedLaws.{one-named, one-text}
use Rattle.block_body.proofs.names.names_of_rows.Goals as goal

pub returns-then-rows-eq1-clause-names : goal.returns-then-rows-eq1-clause-names
returns-then-rows-eq1-clause-names c =
    let one : length c.args.rows.now ≡ 1 = omega (arith, c.if-rows-eq1.true) in
    one-named c.args.rows.now c.index-rows-0.result c.in_ok-names.names.items one c.index-rows-0.is
    (c.in_ok-names.ensures.names ∙ ap names_in c.fields_of-fields.ensures.fields) c.fields_of-fields.ensures.rules

pub returns-then-rows-eq1-clause-texts : goal.returns-then-rows-eq1-clause-texts
returns-then-rows-eq1-clause-texts c =
    let one : length c.args.rows.now ≡ 1 = omega (arith, c.if-rows-eq1.true) in
    one-text c.args.rows.now c.index-rows-0.result one c.index-rows-0.is
    (ap (list_all is_text_field) (sym c.fields_of-fields.ensures.fields) ∙ c.in_ok-names.ensures.texts)
