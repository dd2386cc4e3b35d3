use Rattle.std.proofs.Common.{◌≡◌, map, take, true}
use Rattle.std.specs.List.{list_all}
use Rattle.block_format.specs.Reading.{has_spelling}
use Rattle.part_model.specs.Filling.{rows_in_blocks}
use Rattle.part_file.specs.Read.{rows_of_items}
use Rattle.part_file.proofs.read.rows_of.Given as goal

abbrev pub invariant-loop-item : goal.invariant-loop-item
invariant-loop-item l = record {
  rows : l.all.items ≡ rows_in_blocks (map rows_of_items (take l.item-index l.items));
  spelled : list_all has_spelling (map rows_of_items (take l.item-index l.items)) ≡ true;
}
