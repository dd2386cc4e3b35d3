use Rattle.std.proofs.Common.{◌≡◌, ◌++◌, take, true}
use Rattle.std.specs.List.{flat_map, list_all}
use Rattle.part_file.specs.Blocks.{sized_block_bytes}
use Rattle.part_file.specs.Format.{is_sized}
use Rattle.part_file.proofs.put.put_all.Given as goal

abbrev pub invariant-loop-block : goal.invariant-loop-block
invariant-loop-block l = record {
  bytes : l.out.items ≡ l.initial.out.items ++ flat_map sized_block_bytes (take l.block-index l.blocks);
  sized : list_all is_sized (take l.block-index l.blocks) ≡ true;
}
