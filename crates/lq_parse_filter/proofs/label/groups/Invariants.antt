use Rattle.std.proofs.Common.{◌≡◌, ℕ, [], ◌∷◌, ◌++◌, length, map}
use Rattle.grammar.specs.Reading.{mapped}
use Rattle.lq_ast.specs.View.{tests_of}
use Rattle.lq_grammar.specs.declared.role.Role.TheVariants.{Or}
use Rattle.lq_grammar.specs.Roles.{any}
use Rattle.lq_grammar.specs.LogsQL.{labels, groups, behind}
use Rattle.lq_grammar.specs.Clauses.{at, all_at}
use Rattle.lq_parse_filter.proofs.label.groups.Given as goal

abbrev pub invariant-others : goal.invariant-others
invariant-others l =
    (depth : ℕ) → mapped (λ xs. map tests_of l.groups.items ++ xs)
    (all_at depth (behind (any (Or ∷ [])) labels) l.rest) ≡ at depth groups l.fn.tokens

abbrev pub decreases-others : goal.decreases-others
decreases-others l = length l.rest
