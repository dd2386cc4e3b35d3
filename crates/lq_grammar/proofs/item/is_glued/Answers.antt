use Rattle.std.proofs.Common.{◌∙◌}
use Rattle.lq_grammar.proofs.Codes.{glued_role, loose_role}
use Rattle.lq_grammar.proofs.item.is_glued.Goals as goal

pub returns-then-glued : goal.returns-then-glued
returns-then-glued c = c.is_among.ensures ∙ glued_role c.args.role c.args.roles.now c.args.glued c.if-glued.true

pub returns-else-glued : goal.returns-else-glued
returns-else-glued c = loose_role c.args.role c.args.roles.now c.args.glued c.if-glued.false
