use Rattle.std.proofs.Common.{◌≡◌, ◌-◌, map}
use Rattle.std.specs.List.{All}
use Rattle.byte_format.specs.Format.{front, many, one_more, repeated}
use Rattle.part_file.specs.Blocks.{sized_block}
use Rattle.part_file.specs.Read.{WasRead, rows_of_items}
use Rattle.part_file.proofs.take.take_many.Given as goal

abbrev pub invariant-loop : goal.invariant-loop
invariant-loop l = record {
  items : front (repeated (l.count - l.counter) (one_more sized_block) (map rows_of_items l.blocks.items)) l.rest
      ≡ front (many l.count sized_block) l.bytes;
  read : All WasRead l.blocks.items;
}
