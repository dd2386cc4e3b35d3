use Rattle.std.proofs.Common.{◌≡◌, map, take}
use Rattle.block_model.specs.declared.keys.Key.{Key}
use Rattle.block_body.proofs.body.body_of.Given as goal

abbrev pub invariant-loop-key : goal.invariant-loop-key
invariant-loop-key l = record {
  times : l.times.items ≡ map (λ (key : Key). key.time) (take l.key-index l.keys);
  places : l.places.items ≡ map (λ (key : Key). key.place) (take l.key-index l.keys);
}
