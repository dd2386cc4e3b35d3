use Rattle.std.proofs.Common.{◌≡◌, List, length, map, take, zip}
use Rattle.lq_ast.specs.Tuples.{Tuple}
use Rattle.lq_tuple.specs.Counted.{HaveLength, tuple_text}
use Rattle.lq_stats.specs.Finish.{group_pair}
use Rattle.lq_stats.proofs.read.read_groups.Given as goal

abbrev pub invariant-loop-i : goal.invariant-loop-i
invariant-loop-i l =
    (tuples : List Tuple) → map (λ text. text.now) l.texts ≡ map tuple_text tuples → HaveLength l.width tuples
    → length l.states ≡ length tuples
    → map group_pair l.groups.items ≡ zip (take l.i tuples) (take l.i l.states)
