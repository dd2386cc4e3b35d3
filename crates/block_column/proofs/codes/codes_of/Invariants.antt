use Rattle.std.proofs.Common.{◌≡◌, length, map, take}
use Rattle.block_model.specs.Distinct.{code_of}
use Rattle.block_column.proofs.codes.codes_of.Given as goal

abbrev pub invariant-loop-value : goal.invariant-loop-value
invariant-loop-value l = record {
  codes : l.codes.items ≡ map (code_of l.sorted) (map (λ t. t.now) (take l.value-index l.values));
  slots : length l.slots.items ≡ 512;
}
