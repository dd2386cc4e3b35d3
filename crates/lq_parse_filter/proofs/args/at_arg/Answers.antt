use Rattle.std.proofs.Common.{sym, ◌∙◌}
use Rattle.lq_parse_filter.proofs.Firsts.{arg_first}
use Rattle.lq_parse_filter.proofs.args.at_arg.Goals as goal

pub returns-else-at : goal.returns-else-at
returns-else-at c = c.at-else-at.ensures ∙ sym (arg_first c.args.tokens.now (sym c.at.ensures ∙ c.if-at.false))
