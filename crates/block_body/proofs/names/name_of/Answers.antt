use Rattle.std.proofs.Common.{◌≡◌, subst, true}
use Rattle.log_model.specs.Field.{Field}
use Rattle.block_model.specs.Texts.{is_text_field}
use Rattle.block_body.proofs.NamedLaws.{text-field}
use Rattle.block_body.proofs.names.name_of.Goals as goal

pub returns-clause-text : goal.returns-clause-text
returns-clause-text c =
    let field : Field = (c.field.inside.name, c.field.inside.value) in
    subst (λ (f : Field). is_text_field f ≡ true) c.field.view_is (text-field field c.as_str-2.ensures.utf8
    c.as_str.ensures.utf8)
