use Rattle.std.proofs.Common.{◌≡◌, ℕ, [], ◌∷◌, ◌++◌, length, map}
use Rattle.grammar.specs.Reading.{mapped}
use Rattle.lq_ast.specs.PipeView.{group_by}
use Rattle.lq_grammar.specs.declared.role.Role.TheVariants.{Comma}
use Rattle.lq_grammar.specs.Roles.{any}
use Rattle.lq_grammar.specs.LogsQL.{behind, key, keys}
use Rattle.lq_grammar.specs.Clauses.{at, all_at}
use Rattle.lq_parse.proofs.stats.keys.Given as goal

abbrev pub invariant-others : goal.invariant-others
invariant-others l =
    (depth : ℕ) → mapped (λ xs. map group_by l.keys.items ++ xs)
    (all_at depth (behind (any (Comma ∷ [])) key) l.rest) ≡ at depth keys l.fn.tokens

abbrev pub decreases-others : goal.decreases-others
decreases-others l = length l.rest
