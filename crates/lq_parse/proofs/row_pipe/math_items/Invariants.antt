use Rattle.std.proofs.Common.{◌≡◌, [], ◌∷◌, ◌++◌, length, map}
use Rattle.grammar.specs.Reading.{mapped}
use Rattle.lq_ast.specs.MakingView.{math_item}
use Rattle.lq_grammar.specs.declared.role.Role.TheVariants.{Comma}
use Rattle.lq_grammar.specs.Roles.{any}
use Rattle.lq_grammar.specs.LogsQL.{behind, math_item as rule, math_items}
use Rattle.lq_grammar.specs.Clauses.{at, all_at}
use Rattle.lq_parse.proofs.row_pipe.math_items.Given as goal

abbrev pub invariant-others : goal.invariant-others
invariant-others l =
    mapped (λ xs. map math_item l.items.items ++ xs)
    (all_at l.depth (behind (any (Comma ∷ [])) rule) l.rest) ≡ at l.depth math_items l.fn.tokens

abbrev pub decreases-others : goal.decreases-others
decreases-others l = length l.rest
