use Rattle.std.proofs.Common.{◌≡◌, ◌<◌, ◌+◌, ◌*◌, [], ◌∷◌, length, map, vec_len}
use Rattle.std.specs.Option.{option_copied}
use Rattle.grammar.specs.Reading.{mapped}
use Rattle.lq_ast.specs.Condition.{all_of, any_of}
use Rattle.lq_ast.specs.View.{condition}
use Rattle.lq_grammar.specs.declared.role.Role.TheVariants.{Or}
use Rattle.lq_grammar.specs.Roles.{any}
use Rattle.lq_grammar.specs.LogsQL.{and, or, next_unary, behind}
use Rattle.lq_grammar.specs.Clauses.{at, all_at}
use Rattle.lq_parse_filter.proofs.Turning.{gathered}
use Rattle.lq_parse_filter.proofs.filter.+filter.Given as goal

abbrev pub invariant-and-others : goal.invariant-and-others
invariant-and-others l =
    (0 < vec_len l.filters)
    × (gathered all_of (option_copied l.field) (map condition l.filters.items) (all_at l.depth (next_unary l.scope) l.rest)
    ≡ mapped (λ made. made (option_copied l.field)) (at l.depth (and l.scope) l.fn.tokens))

abbrev pub decreases-and-others : goal.decreases-and-others
decreases-and-others l = length l.rest

abbrev pub invariant-or-others : goal.invariant-or-others
invariant-or-others l =
    (0 < vec_len l.filters)
    × (gathered any_of (option_copied l.field) (map condition l.filters.items)
    (all_at l.depth (behind (any (Or ∷ [])) (and l.scope)) l.rest)
    ≡ mapped (λ made. made (option_copied l.field)) (at l.depth (or l.scope) l.fn.tokens))

abbrev pub decreases-or-others : goal.decreases-or-others
decreases-or-others l = length l.rest

abbrev pub decreases-group : goal.decreases-group
decreases-group l = 20 * l.depth

abbrev pub decreases-negation : goal.decreases-negation
decreases-negation l = 20 * l.depth

abbrev pub decreases-inner_negation : goal.decreases-inner_negation
decreases-inner_negation l = 20 * l.depth

abbrev pub decreases-inner : goal.decreases-inner
decreases-inner l = 20 * l.depth + 1

abbrev pub decreases-stream_value : goal.decreases-stream_value
decreases-stream_value l = 20 * l.depth + 2

abbrev pub decreases-stream_end : goal.decreases-stream_end
decreases-stream_end l = 20 * l.depth + 3

abbrev pub decreases-word_unit : goal.decreases-word_unit
decreases-word_unit l = 20 * l.depth + 2

abbrev pub decreases-record_unit : goal.decreases-record_unit
decreases-record_unit l = 20 * l.depth + 4

abbrev pub decreases-row_unit : goal.decreases-row_unit
decreases-row_unit l = 20 * l.depth + 4

abbrev pub decreases-unit : goal.decreases-unit
decreases-unit l = 20 * l.depth + 5

abbrev pub decreases-unary : goal.decreases-unary
decreases-unary l = 20 * l.depth + 6

abbrev pub decreases-next_unary : goal.decreases-next_unary
decreases-next_unary l = 20 * l.depth + 7

abbrev pub decreases-and : goal.decreases-and
decreases-and l = 20 * l.depth + 8

abbrev pub decreases-or : goal.decreases-or
decreases-or l = 20 * l.depth + 9
