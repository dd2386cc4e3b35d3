use Rattle.std.proofs.Common.{◌≡◌, ◌≤◌, ◌*◌, take}
use Rattle.block_reading.specs.ByColumns.{bytes_in}
use Rattle.block_reading.proofs.sizes.bytes_in.Given as goal

abbrev pub invariant-loop-size : goal.invariant-loop-size
invariant-loop-size l = record {
  sum : l.bytes ≡ bytes_in (take l.size-index l.sizes);
  light : l.bytes ≤ 262_144 * l.size-index;
}
