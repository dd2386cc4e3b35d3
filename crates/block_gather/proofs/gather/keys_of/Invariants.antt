use Rattle.std.proofs.Common.{◌≡◌, take, true}
use Rattle.std.specs.List.{AllByRecursion, list_all}
use Rattle.block_model.specs.Keys.{IsNumbered, keys_of}
use Rattle.block_model.specs.Texts.{is_text_row}
use Rattle.block_gather.specs.Picked.{rows_picked}
use Rattle.block_gather.proofs.gather.keys_of.Given as goal

abbrev pub invariant-loop-pick : goal.invariant-loop-pick
invariant-loop-pick l = record {
  keys : l.keys.items ≡ keys_of (rows_picked (take l.pick-index l.picks));
  rules : AllByRecursion IsNumbered (rows_picked (take l.pick-index l.picks));
  texts : list_all is_text_row (rows_picked (take l.pick-index l.picks)) ≡ true;
}
