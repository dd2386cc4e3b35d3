use Rattle.std.proofs.Common.{◌≡◌, map, take}
use Rattle.std.specs.List.{All}
use Rattle.lq_ast.specs.Tuples.{tuple_of}
use Rattle.lq_plain.specs.Named.{IsNamed}
use Rattle.lq_plain.proofs.tuples.all_tuples.Given as goal

abbrev pub invariant-loop-fields : goal.invariant-loop-fields
invariant-loop-fields l =
    (l.tuples.items ≡ map (tuple_of l.names) (take l.fields-index l.records)) × All (IsNamed l.names) l.tuples.items
