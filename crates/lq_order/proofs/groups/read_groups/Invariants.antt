use Rattle.std.proofs.Common.{◌≡◌, List, length, map}
use Rattle.lq_ast.specs.Tuples.{Tuple}
use Rattle.lq_tuple.specs.Counted.{HaveLength, tuple_text}
use Rattle.lq_order.proofs.ReadGroups.{AreRead}
use Rattle.lq_order.proofs.groups.read_groups.Given as goal

abbrev pub invariant-loop-i : goal.invariant-loop-i
invariant-loop-i l =
    (tuples : List Tuple) (same : map (λ text. text.now) l.texts ≡ map tuple_text tuples) (wide : HaveLength l.width tuples)
    (long : length l.hits ≡ length tuples) → AreRead l.texts tuples l.hits l.width l.least same wide long l.i l.groups.items
