use Rattle.std.proofs.Common.{◌≡◌, ◌+◌, ◌^◌, ◌<◌, ◌++◌, List, ℕ, length, take}
use Rattle.lq_ast.specs.Tuples.{tuple_of}
use Rattle.lq_stats.specs.Measure.{AreMeasured, measure_call}
use Rattle.lq_stats.proofs.state.add_values.Given as goal

abbrev pub invariant-loop-name : goal.invariant-loop-name
invariant-loop-name l =
    (measure_call l.measure ≡ measure_call l.initial.measure)
    × ((values : List (List ℕ)) → length values + length l.names < 2 ^ 64 → AreMeasured l.initial.measure values
    → AreMeasured l.measure (values ++ tuple_of (take l.name-index l.names) l.fields))
