use Rattle.std.proofs.Common.{◌≡◌, ◌++◌, take}
use Rattle.std.specs.Prelude.{flat_map}
use Rattle.lq_ast.specs.Patterns.{patterns_of}
use Rattle.lq_ast.specs.View.{condition}
use Rattle.lq_plain.proofs.patterns.+listing.Given as goal

abbrev pub invariant-push_filters-loop-filter : goal.invariant-push_filters-loop-filter
invariant-push_filters-loop-filter l =
    l.out.items ≡ l.fn.out.items ++ flat_map (λ filter. patterns_of (condition filter)) (take l.filter-index l.filters)
