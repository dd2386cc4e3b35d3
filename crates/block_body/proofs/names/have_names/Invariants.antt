use Rattle.std.proofs.Common.{◌≡◌, take, true}
use Rattle.std.specs.List.{AllByRecursion, list_all}
use Rattle.block_model.specs.Texts.{is_text_row}
use Rattle.block_body.proofs.NamedLaws.{HasNames}
use Rattle.block_body.proofs.names.have_names.Given as goal

abbrev pub invariant-loop-numbered : goal.invariant-loop-numbered
invariant-loop-numbered l = record {
  each : AllByRecursion (HasNames l.names) (take l.numbered-index l.rows);
  texts : list_all is_text_row (take l.numbered-index l.rows) ≡ true;
}
