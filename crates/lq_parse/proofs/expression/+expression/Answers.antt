use Rattle.std.proofs.Common.{sym, ◌∙◌}
use Rattle.grammar.proofs.Whole.{takes}
use Rattle.lq_ast.specs.MakingView.{expression}
use Rattle.lq_grammar.specs.LogsQL.{logsql, next_factor, next_term}
use Rattle.lq_parse.proofs.Operated.{factor_some, term_some, fold_more, word_read}
use Rattle.lq_parse.proofs.Firsts.{factor_class, factor_first, term_class, term_first}
use Rattle.lq_parse.proofs.expression.+expression.Goals as goal

pub atom-returns-in-Some : goal.atom-returns-in-Some
atom-returns-in-Some t c =
    rw c.in_ok-bare_value.ensures (word_read c.args.depth c.args.tokens.now c.in-Some.rest.now c.in-Some.word.now
    c.in-Some.ensures)

pub term-others-smaller : goal.term-others-smaller
term-others-smaller t c =
    takes logsql c.args.depth next_factor factor_some c.others.rest.now _ c.in_ok-op.behind.now c.in_ok-op.ensures

pub term-others-preserved : goal.term-others-preserved
term-others-preserved t c =
    fold_more c.args.depth next_factor factor_class factor_some factor_first (expression c.others.left) _
    c.others.rest.now c.in_ok-op.op (expression c.in_ok-op.right) c.in_ok-op.behind.now _
    (sym c.at.ensures ∙ c.others-test.true) c.in_ok-op.ensures c.in_ok-left-2.ensures c.others.invariant

pub expr-others-smaller : goal.expr-others-smaller
expr-others-smaller t c =
    takes logsql c.args.depth next_term term_some c.others.rest.now _ c.in_ok-op.behind.now c.in_ok-op.ensures

pub expr-others-preserved : goal.expr-others-preserved
expr-others-preserved t c =
    fold_more c.args.depth next_term term_class term_some term_first (expression c.others.left) _
    c.others.rest.now c.in_ok-op.op (expression c.in_ok-op.right) c.in_ok-op.behind.now _
    (sym c.at.ensures ∙ c.others-test.true) c.in_ok-op.ensures c.in_ok-left-2.ensures c.others.invariant
