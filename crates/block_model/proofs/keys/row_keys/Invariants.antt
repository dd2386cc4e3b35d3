use Rattle.std.proofs.Common.{◌≡◌, take}
use Rattle.std.specs.List.{AllByRecursion}
use Rattle.block_model.specs.Keys.{IsNumbered, keys_of}
use Rattle.block_model.proofs.keys.row_keys.Given as goal

abbrev pub invariant-loop-numbered : goal.invariant-loop-numbered
invariant-loop-numbered l = record {
  keys : l.keys.items ≡ keys_of (take l.numbered-index l.rows);
  rules : AllByRecursion IsNumbered (take l.numbered-index l.rows);
}
