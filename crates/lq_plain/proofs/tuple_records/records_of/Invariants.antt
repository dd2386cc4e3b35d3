use Rattle.std.proofs.Common.{◌≡◌, map, take}
use Rattle.std.specs.Bool.{if◌then◌else◌}
use Rattle.lq_ast.specs.Sorting.{counted_record, tuple_record}
use Rattle.lq_plain.proofs.tuple_records.records_of.Given as goal

abbrev pub invariant-loop-tuple : goal.invariant-loop-tuple
invariant-loop-tuple l =
    l.made.items
    ≡ map (if l.with_hits then counted_record l.names l.records else tuple_record l.names) (take l.tuple-index l.tuples)
