use Rattle.std.proofs.Common.{◌≡◌, take, true}
use Rattle.std.specs.List.{list_all}
use Rattle.block_model.specs.Columns.{names_in}
use Rattle.block_model.specs.Texts.{is_text_field}
use Rattle.block_body.proofs.names.are_named.Given as goal

abbrev pub invariant-loop-i : goal.invariant-loop-i
invariant-loop-i l = record {
  names : names_in (take l.i l.fields) ≡ take l.i l.names;
  texts : list_all is_text_field (take l.i l.fields) ≡ true;
}
