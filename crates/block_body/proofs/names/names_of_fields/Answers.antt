use Rattle.std.proofs.Common.{◌++◌, ◌∙◌, ℕ, List, [], ◌∷◌, ap, sym, take}
use Rattle.std.proofs.lemmas.List.{map_more}
use Rattle.block_model.specs.Columns.{names_in}
use Rattle.block_model.specs.Texts.{is_text_field}
use Rattle.log_model.specs.Field.{Field}
use Rattle.block_body.proofs.NamedLaws.{passes-more}
use Rattle.block_body.proofs.names.names_of_fields.Goals as goal

pub loop-field-preserved : goal.loop-field-preserved
loop-field-preserved c =
    let before : List Field = take c.loop-field.field-index c.args.fields.now in
    record {
      names = c.in_ok-push.ensures.items
          ∙ ap (λ (l : List (List ℕ)). l ++ c.in_ok-name.name ∷ []) c.loop-field.invariant.names
          ∙ ap (λ (n : List ℕ). names_in before ++ n ∷ []) (c.in_ok-name.ensures ∙ c.name_of.ensures.name
          ∙ ap (λ (f : Field). f.0) c.field-item.is)
          ∙ sym (map_more (λ (f : Field). f.0) c.args.fields.now c.loop-field.field-index c.field-item.result
          c.loop-field-test.true);
      texts = passes-more is_text_field c.args.fields.now c.loop-field.field-index c.field-item.result
          c.loop-field-test.true c.field-item.is c.loop-field.invariant.texts c.name_of.ensures.text;
    }
