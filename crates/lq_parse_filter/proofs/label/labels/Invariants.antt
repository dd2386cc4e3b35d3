use Rattle.std.proofs.Common.{◌≡◌, ℕ, [], ◌∷◌, ◌++◌, length, map}
use Rattle.grammar.specs.Reading.{mapped}
use Rattle.lq_ast.specs.View.{test_of}
use Rattle.lq_grammar.specs.declared.role.Role.TheVariants.{Comma}
use Rattle.lq_grammar.specs.Roles.{any}
use Rattle.lq_grammar.specs.LogsQL.{labels, label, behind}
use Rattle.lq_grammar.specs.Clauses.{at, all_at}
use Rattle.lq_parse_filter.proofs.label.labels.Given as goal

abbrev pub invariant-others : goal.invariant-others
invariant-others l =
    (depth : ℕ) → mapped (λ xs. map test_of l.labels.items ++ xs)
    (all_at depth (behind (any (Comma ∷ [])) label) l.rest) ≡ at depth labels l.fn.tokens

abbrev pub decreases-others : goal.decreases-others
decreases-others l = length l.rest
