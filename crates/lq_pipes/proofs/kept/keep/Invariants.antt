use Rattle.std.proofs.Common.{◌≡◌}
use Rattle.std.proofs.lemmas.List.Filters.{FiltersInPlace}
use Rattle.lq_ast.specs.Holds.{record_holds}
use Rattle.lq_filter.specs.Inner.{inner_condition, record_condition}
use Rattle.lq_pipes.proofs.kept.keep.Given as goal

abbrev pub invariant-loop-i : goal.invariant-loop-i
invariant-loop-i l = record {
  asked : record_condition l.scan ≡ inner_condition l.asked;
  kept : FiltersInPlace (record_holds (inner_condition l.asked)) l.initial.records.items l.records.items l.kept l.i;
}
