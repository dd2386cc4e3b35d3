use Rattle.std.proofs.Common.{◌≡◌, ◌++◌, length, true}
use Rattle.std.specs.List.{flat_map, list_all}
use Rattle.part_file.specs.Blocks.{sized_block_bytes}
use Rattle.part_file.specs.Format.{is_sized}
use Rattle.part_file.proofs.by_blocks.blocks_at.Given as goal

abbrev pub invariant-loop : goal.invariant-loop
invariant-loop l = record {
  bytes : l.bytes ≡ flat_map sized_block_bytes l.blocks.items ++ l.rest;
  sized : list_all is_sized l.blocks.items ≡ true;
  count : length l.blocks.items ≡ l.counter;
}
