use Rattle.std.proofs.Common.{◌≡◌, ◌≤◌, ◌∷◌, length, map, take, true}
use Rattle.std.specs.List.{list_all}
use Rattle.block_model.specs.Distinct.{distinct, is_listed, is_short}
use Rattle.block_column.proofs.codes.set_with.Given as goal

abbrev pub invariant-loop-value : goal.invariant-loop-value
invariant-loop-value l = record {
  so_far : map (λ t. t.now) l.set.keys ≡ distinct (l.first ∷ map (λ t. t.now) (take l.value-index l.rest));
  short : list_all is_short (map (λ t. t.now) (take l.value-index l.rest)) ≡ true;
  few : length l.set.keys ≤ 255;
  recent : list_all (is_listed (map (λ t. t.now) l.set.keys)) l.recent ≡ true;
}
