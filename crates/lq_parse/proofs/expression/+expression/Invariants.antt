use Rattle.std.proofs.Common.{◌≡◌, ◌+◌, ◌*◌, length}
use Rattle.lq_ast.specs.MakingView.{expression}
use Rattle.lq_grammar.specs.LogsQL.{term, next_factor, expr, next_term}
use Rattle.lq_grammar.specs.Clauses.{at, all_at}
use Rattle.lq_parse.proofs.Operated.{gathered}
use Rattle.lq_parse.proofs.expression.+expression.Given as goal

abbrev pub invariant-term-others : goal.invariant-term-others
invariant-term-others l =
    gathered (expression l.left) (all_at l.depth next_factor l.rest) ≡ at l.depth term l.fn.tokens

abbrev pub decreases-term-others : goal.decreases-term-others
decreases-term-others l = length l.rest

abbrev pub invariant-expr-others : goal.invariant-expr-others
invariant-expr-others l =
    gathered (expression l.left) (all_at l.depth next_term l.rest) ≡ at l.depth expr l.fn.tokens

abbrev pub decreases-expr-others : goal.decreases-expr-others
decreases-expr-others l = length l.rest

abbrev pub decreases-parenthesized : goal.decreases-parenthesized
decreases-parenthesized l = 10 * l.depth

abbrev pub decreases-atom : goal.decreases-atom
decreases-atom l = 10 * l.depth + 1

abbrev pub decreases-next_factor : goal.decreases-next_factor
decreases-next_factor l = 10 * l.depth + 2

abbrev pub decreases-term : goal.decreases-term
decreases-term l = 10 * l.depth + 3

abbrev pub decreases-next_term : goal.decreases-next_term
decreases-next_term l = 10 * l.depth + 4

abbrev pub decreases-expr : goal.decreases-expr
decreases-expr l = 10 * l.depth + 5
