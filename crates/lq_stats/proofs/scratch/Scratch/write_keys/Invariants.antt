use Rattle.std.proofs.Common.{◌≡◌, ◌<◌, ◌^◌, flat_map, length, map, string_bytes, take}
use Rattle.std.specs.List.{AllByRecursion}
use Rattle.lq_ast.specs.Groups.{key_value}
use Rattle.lq_tuple.specs.Counted.{part}
use Rattle.lq_stats.specs.Key.{grouped_by}
use Rattle.lq_stats.proofs.scratch.Scratch.write_keys.Given as goal

abbrev pub invariant-loop-key : goal.invariant-loop-key
invariant-loop-key l =
    (string_bytes l.self.text
    ≡ flat_map part (map (λ key. key_value l.fields (grouped_by key)) (take l.key-index l.keys)))
    × AllByRecursion (λ text. length text < 2 ^ 64)
    (map (λ key. key_value l.fields (grouped_by key)) (take l.key-index l.keys))
