use Rattle.std.proofs.Common.{◌≡◌, map, take, true}
use Rattle.std.specs.List.{list_all}
use Rattle.block_column.specs.Kinds.{integers_in, is_number}
use Rattle.block_column.proofs.kinds.integers.Given as goal

abbrev pub invariant-loop-value : goal.invariant-loop-value
invariant-loop-value l = record {
  are : list_all is_number (map (λ t. t.now) (take l.value-index l.values)) ≡ true;
  so_far : l.ints.items ≡ integers_in (map (λ t. t.now) (take l.value-index l.values));
}
