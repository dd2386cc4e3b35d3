use Rattle.std.proofs.Common.{◌≡◌, take, true}
use Rattle.std.specs.List.{list_all}
use Rattle.block_model.specs.Columns.{names_in}
use Rattle.block_model.specs.Texts.{is_text_field}
use Rattle.block_body.proofs.names.names_of_fields.Given as goal

abbrev pub invariant-loop-field : goal.invariant-loop-field
invariant-loop-field l = record {
  names : l.names.items ≡ names_in (take l.field-index l.fields);
  texts : list_all is_text_field (take l.field-index l.fields) ≡ true;
}
