use Rattle.std.proofs.Common.{◌≡◌, ◌<◌, ◌≤◌, length, map, take}
use Rattle.block_format.specs.Rows.{labels_of}
use Rattle.part_model.specs.Filling.{rows_in_blocks}
use Rattle.part_picks.specs.Names.{AreNamed}
use Rattle.part_picks.specs.Range.{AreOfStream}
use Rattle.part_picks.proofs.ends.narrow_end.Given as goal

abbrev pub invariant-loop-i : goal.invariant-loop-i
invariant-loop-i l = record {
  count : l.count ≡ length (rows_in_blocks (take l.i l.queue.items));
  few : l.count < 4096;
  named : AreNamed (map (λ t. t.now) l.names.keys) (rows_in_blocks (take l.i l.queue.items));
  narrow : length l.names.keys ≤ 256;
  stream : AreOfStream (labels_of (rows_in_blocks l.queue.items)) (rows_in_blocks (take l.i l.queue.items));
}
