use Rattle.std.proofs.Common.{◌≡◌, ℕ, [], ◌∷◌, ◌++◌, length}
use Rattle.grammar.specs.Reading.{mapped}
use Rattle.lq_grammar.specs.declared.role.Role.TheVariants.{Comma}
use Rattle.lq_grammar.specs.Roles.{any}
use Rattle.lq_grammar.specs.LogsQL.{args, arg, behind}
use Rattle.lq_grammar.specs.Clauses.{at, all_at}
use Rattle.lq_parse_filter.proofs.args.args.Given as goal

abbrev pub invariant-others : goal.invariant-others
invariant-others l =
    (depth : ℕ) → mapped (λ xs. l.list.items ++ xs) (all_at depth (behind (any (Comma ∷ [])) arg) l.rest)
    ≡ at depth args l.fn.tokens

abbrev pub decreases-others : goal.decreases-others
decreases-others l = length l.rest
