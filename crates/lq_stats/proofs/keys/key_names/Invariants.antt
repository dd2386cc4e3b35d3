use Rattle.std.proofs.Common.{◌≡◌, map, take}
use Rattle.lq_stats.specs.Key.{grouped_by}
use Rattle.lq_stats.proofs.keys.key_names.Given as goal

abbrev pub invariant-loop-key : goal.invariant-loop-key
invariant-loop-key l =
    map (λ name. name.now) l.names.items ≡ map (λ key. key.0) (map grouped_by (take l.key-index l.keys))
