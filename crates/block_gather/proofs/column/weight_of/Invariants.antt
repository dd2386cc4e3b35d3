use Rattle.std.proofs.Common.{◌≡◌, map, take}
use Rattle.block_gather.specs.Gathered.{column_weight}
use Rattle.block_gather.proofs.column.weight_of.Given as goal

abbrev pub invariant-loop-text : goal.invariant-loop-text
invariant-loop-text l = l.weight ≡ column_weight l.name (map (λ t. t.now) (take l.text-index l.texts))
