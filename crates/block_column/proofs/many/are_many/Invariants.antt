use Rattle.std.proofs.Common.{◌≡◌, ◌≤◌, length, map, take, true}
use Rattle.std.specs.List.{list_all}
use Rattle.block_model.specs.Distinct.{distinct}
use Rattle.block_model.specs.Tags.{has_slot}
use Rattle.block_column.proofs.many.are_many.Given as goal

abbrev pub invariant-loop-i : goal.invariant-loop-i
invariant-loop-i l = record {
  len : length l.taken.items ≡ 512;
  taken : list_all (has_slot l.taken.items) (map (λ t. t.now) (take l.i l.values)) ≡ true;
  count : l.count ≤ length (distinct (map (λ t. t.now) (take l.i l.values)));
  few : l.count ≤ 255;
}
