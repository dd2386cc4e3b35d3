use Rattle.std.proofs.Common.{◌≡◌, map, take, true}
use Rattle.std.specs.List.{list_all}
use Rattle.block_model.specs.Columns.{put_names}
use Rattle.block_model.specs.Texts.{is_text_field}
use Rattle.block_model.proofs.columns.put_names.Given as goal

abbrev pub invariant-loop-field : goal.invariant-loop-field
invariant-loop-field l = record {
  names : map (λ t. t.now) l.names.keys ≡ put_names (map (λ t. t.now) l.initial.names.keys) (take l.field-index
      l.fields);
  texts : list_all is_text_field (take l.field-index l.fields) ≡ true;
}
