use Rattle.std.proofs.Common.{◌≡◌, [], ◌∷◌, ◌++◌, length, map}
use Rattle.grammar.specs.Reading.{mapped}
use Rattle.lq_ast.specs.PipeView.{statistic}
use Rattle.lq_grammar.specs.declared.role.Role.TheVariants.{Comma}
use Rattle.lq_grammar.specs.Roles.{any}
use Rattle.lq_grammar.specs.LogsQL.{behind, func, funcs}
use Rattle.lq_grammar.specs.Clauses.{at, all_at}
use Rattle.lq_parse.proofs.stats.funcs.Given as goal

abbrev pub invariant-others : goal.invariant-others
invariant-others l =
    mapped (λ xs. map statistic l.funcs.items ++ xs)
    (all_at l.depth (behind (any (Comma ∷ [])) func) l.rest) ≡ at l.depth funcs l.fn.tokens

abbrev pub decreases-others : goal.decreases-others
decreases-others l = length l.rest
