use Rattle.std.proofs.Common.{◌≡◌, map, take, true}
use Rattle.std.specs.List.{list_all}
use Rattle.block_model.specs.Columns.{names_of, put_names}
use Rattle.block_model.specs.Texts.{is_text_row}
use Rattle.block_model.proofs.columns.name_set.Given as goal

abbrev pub invariant-loop-numbered : goal.invariant-loop-numbered
invariant-loop-numbered l = record {
  names : map (λ t. t.now) l.names.keys ≡ names_of (take l.numbered-index l.rows);
  texts : list_all is_text_row (take l.numbered-index l.rows) ≡ true;
  last : put_names (map (λ t. t.now) l.names.keys) l.last ≡ map (λ t. t.now) l.names.keys;
}
