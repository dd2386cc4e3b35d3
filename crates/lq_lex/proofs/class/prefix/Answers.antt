use Rattle.lq_lex.proofs.Widths.{prefix_cut}
use Rattle.lq_lex.proofs.class.prefix.Goals as goal

pub range-requires-clause-end_boundary : goal.range-requires-clause-end_boundary
range-requires-clause-end_boundary c = prefix_cut c.args.text.now c.requires.0 c.args.rest.now c.requires.1 c.utf8.rest
