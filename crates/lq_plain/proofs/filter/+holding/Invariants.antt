use Rattle.std.proofs.Common.{◌≡◌, drop, map}
use Rattle.std.specs.List.{list_all, list_any}
use Rattle.lq_ast.specs.Condition.{conditions}
use Rattle.lq_ast.specs.Holds.{are_all_met, is_met, is_some_met}
use Rattle.lq_ast.specs.View.{condition}
use Rattle.lq_plain.specs.Subject.{subject_of}
use Rattle.lq_plain.proofs.filter.+holding.Given as goal

abbrev pub invariant-are_all_met-loop-filter : goal.invariant-are_all_met-loop-filter
invariant-are_all_met-loop-filter l =
    list_all (λ filter. is_met (condition filter) (subject_of l.subject)) (drop l.filter-index l.filters)
    ≡ are_all_met (conditions (map condition l.filters)) (subject_of l.subject)

abbrev pub invariant-is_some_met-loop-filter : goal.invariant-is_some_met-loop-filter
invariant-is_some_met-loop-filter l =
    list_any (λ filter. is_met (condition filter) (subject_of l.subject)) (drop l.filter-index l.filters)
    ≡ is_some_met (conditions (map condition l.filters)) (subject_of l.subject)
