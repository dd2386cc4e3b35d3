use Rattle.std.proofs.Common.{◌≡◌, map, take}
use Rattle.block_model.specs.declared.keys.Key.{Key}
use Rattle.block_body.proofs.body.numbers_of.Given as goal

abbrev pub invariant-loop-key : goal.invariant-loop-key
invariant-loop-key l = l.numbers.items ≡ map (λ (key : Key). key.batch) (take l.key-index l.keys)
