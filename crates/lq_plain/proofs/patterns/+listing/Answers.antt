use Rattle.std.proofs.Common.{◌++◌, ap, ◌∙◌, arith}
use Rattle.std.specs.Prelude.{flat_map}
use Rattle.std.proofs.lemmas.List.{take_all}
use Rattle.lq_ast.specs.Patterns.{patterns_of}
use Rattle.lq_ast.specs.View.{condition}
use Rattle.lq_plain.proofs.Conditions.{patterns_among-list}
use Rattle.lq_plain.proofs.patterns.+listing.Goals as goal

pub push_filters-returns : goal.push_filters-returns
push_filters-returns t c =
    let filters = c.args.filters.now in
    c.loop-filter.invariant
    ∙ ap (λ xs. c.args.out.now.items ++ flat_map (λ filter. patterns_of (condition filter)) xs)
    (take_all c.loop-filter.filter-index filters (omega arith))
    ∙ ap (λ patterns. c.args.out.now.items ++ patterns) (patterns_among-list condition filters)
