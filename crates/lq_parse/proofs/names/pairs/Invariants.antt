use Rattle.std.proofs.Common.{◌≡◌, ℕ, [], ◌∷◌, ◌++◌, length, map}
use Rattle.grammar.specs.Reading.{mapped}
use Rattle.lq_ast.specs.PipeView.{name_pair}
use Rattle.lq_grammar.specs.declared.role.Role.TheVariants.{Comma}
use Rattle.lq_grammar.specs.Roles.{any}
use Rattle.lq_grammar.specs.LogsQL.{behind, pair, pairs}
use Rattle.lq_grammar.specs.Clauses.{at, all_at}
use Rattle.lq_parse.proofs.names.pairs.Given as goal

abbrev pub invariant-others : goal.invariant-others
invariant-others l =
    (depth : ℕ) → mapped (λ xs. map name_pair l.pairs.items ++ xs)
    (all_at depth (behind (any (Comma ∷ [])) pair) l.rest) ≡ at depth pairs l.fn.tokens

abbrev pub decreases-others : goal.decreases-others
decreases-others l = length l.rest
