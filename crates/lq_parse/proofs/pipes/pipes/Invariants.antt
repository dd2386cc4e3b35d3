use Rattle.std.proofs.Common.{◌≡◌, [], ◌∷◌, ◌++◌, length, map}
use Rattle.grammar.specs.Reading.{mapped}
use Rattle.lq_ast.specs.PipeView.{stage}
use Rattle.lq_grammar.specs.declared.role.Role.TheVariants.{Bar}
use Rattle.lq_grammar.specs.Roles.{any}
use Rattle.lq_grammar.specs.LogsQL.{behind, pipe, pipes}
use Rattle.lq_grammar.specs.Query.{most_open}
use Rattle.lq_grammar.specs.Clauses.{at, all_at}
use Rattle.lq_parse.proofs.pipes.pipes.Given as goal

abbrev pub invariant-others : goal.invariant-others
invariant-others l =
    mapped (λ xs. map stage l.pipes.items ++ xs)
    (all_at most_open (behind (any (Bar ∷ [])) pipe) l.rest) ≡ at most_open pipes l.fn.tokens

abbrev pub decreases-others : goal.decreases-others
decreases-others l = length l.rest
