use Rattle.std.proofs.Common.{◌≡◌, ◌≤◌, ◌*◌, take}
use Rattle.block_body.specs.Outlines.{weight_of}
use Rattle.block_body.proofs.head.weight_of.Given as goal

abbrev pub invariant-loop-numbered : goal.invariant-loop-numbered
invariant-loop-numbered l = record {
  sum : l.weight ≡ weight_of (take l.numbered-index l.rows);
  light : l.weight ≤ 262_144 * l.numbered-index;
}
