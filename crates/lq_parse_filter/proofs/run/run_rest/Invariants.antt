use Rattle.std.proofs.Common.{◌≡◌, ℕ, ◌++◌, flat_map, length}
use Rattle.grammar.specs.Reading.{mapped}
use Rattle.lq_grammar.specs.Roles.{glued, run_parts}
use Rattle.lq_grammar.specs.LogsQL.{text}
use Rattle.lq_grammar.specs.Clauses.{all_at}
use Rattle.lq_parse_filter.proofs.run.run_rest.Given as goal

abbrev pub invariant-parts : goal.invariant-parts
invariant-parts l =
    (depth : ℕ) → mapped (λ parts. l.run ++ flat_map (λ part. part) parts)
    (all_at depth (text (glued run_parts)) l.rest)
    ≡ mapped (λ parts. l.fn.bare ++ flat_map (λ part. part) parts) (all_at depth (text (glued run_parts)) l.fn.tokens)

abbrev pub decreases-parts : goal.decreases-parts
decreases-parts l = length l.rest
