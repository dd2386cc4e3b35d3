use Rattle.std.proofs.Common.{sym, ◌∙◌}
use Rattle.lq_parse.proofs.Firsts.{row_first}
use Rattle.lq_parse.proofs.row_pipe.at_row_pipe.Goals as goal

pub returns : goal.returns
returns c = c.at.ensures ∙ sym (row_first c.args.tokens.now)
