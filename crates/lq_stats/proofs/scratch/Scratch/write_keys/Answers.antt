use Rattle.std.proofs.Common.{◌<◌, ◌^◌, ◌∙◌, ap, flat_map, length, map, subst, sym, arith}
use Rattle.std.proofs.lemmas.List.{take_all}
use Rattle.std.specs.List.{AllByRecursion}
use Rattle.lq_ast.specs.Groups.{key_value}
use Rattle.lq_tuple.proofs.Lists.{map_twice}
use Rattle.lq_tuple.specs.Counted.{part}
use Rattle.lq_stats.specs.Key.{grouped_by}
use Rattle.lq_stats.proofs.scratch.Scratch.write_keys.Goals as goal

pub returns-clause-text : goal.returns-clause-text
returns-clause-text c =
    let r = c.args.fields.now in
    c.loop-key.invariant.0
    ∙ ap (λ keys. flat_map part (map (λ key. key_value r (grouped_by key)) keys))
    (take_all c.loop-key.key-index c.args.keys.now (omega arith))
    ∙ ap (flat_map part) (sym (map_twice grouped_by (key_value r) c.args.keys.now))

pub returns-clause-short : goal.returns-clause-short
returns-clause-short c =
    let r = c.args.fields.now in
    subst (AllByRecursion (λ text. length text < 2 ^ 64))
    (ap (map (λ key. key_value r (grouped_by key))) (take_all c.loop-key.key-index c.args.keys.now (omega arith))
    ∙ sym (map_twice grouped_by (key_value r) c.args.keys.now)) c.loop-key.invariant.1
