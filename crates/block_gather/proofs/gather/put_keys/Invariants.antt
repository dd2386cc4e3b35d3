use Rattle.std.proofs.Common.{◌≡◌, ◌≤◌, ◌++◌}
use Rattle.std.specs.List.{slice_range}
use Rattle.block_model.specs.Keys.{keys_of}
use Rattle.block_gather.proofs.gather.put_keys.Given as goal

abbrev pub invariant-loop-i : goal.invariant-loop-i
invariant-loop-i l = record {
  keys : l.out.items ≡ l.initial.out.items ++ keys_of (slice_range l.pick.block l.pick.from l.i);
  start : l.pick.from ≤ l.i;
}
