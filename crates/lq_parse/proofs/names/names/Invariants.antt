use Rattle.std.proofs.Common.{◌≡◌, ℕ, [], ◌∷◌, ◌++◌, length}
use Rattle.grammar.specs.Reading.{mapped}
use Rattle.lq_grammar.specs.declared.role.Role.TheVariants.{Comma}
use Rattle.lq_grammar.specs.Roles.{any}
use Rattle.lq_grammar.specs.LogsQL.{behind, name, names}
use Rattle.lq_grammar.specs.Clauses.{at, all_at}
use Rattle.lq_parse.proofs.names.names.Given as goal

abbrev pub invariant-others : goal.invariant-others
invariant-others l =
    (depth : ℕ) → mapped (λ xs. l.names.items ++ xs)
    (all_at depth (behind (any (Comma ∷ [])) name) l.rest) ≡ at depth names l.fn.tokens

abbrev pub decreases-others : goal.decreases-others
decreases-others l = length l.rest
