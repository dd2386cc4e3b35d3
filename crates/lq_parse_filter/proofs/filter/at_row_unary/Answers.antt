use Rattle.std.proofs.Common.{sym, ◌∙◌}
use Rattle.lq_parse_filter.proofs.Firsts.{row_then, row_else}
use Rattle.lq_parse_filter.proofs.filter.at_row_unary.Goals as goal

pub returns-then-at : goal.returns-then-at
returns-then-at c = c.if-at.true ∙ row_then c.args.tokens.now (sym c.at.ensures ∙ c.if-at.true)

pub returns-else-at : goal.returns-else-at
returns-else-at c = c.at-else-at.ensures ∙ row_else c.args.tokens.now (sym c.at.ensures ∙ c.if-at.false)
