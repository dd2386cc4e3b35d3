use Rattle.std.proofs.Common.{sym, ◌∙◌}
use Rattle.lq_lex.proofs.TextLaws.{end_last}
use Rattle.lq_lex.proofs.text.plain_end.Goals as goal

pub returns-then-is_empty : goal.returns-then-is_empty
returns-then-is_empty c =
    sym (end_last c.characters.rest.now c.in-Some.remaining.now c.args.quote c.in-Some.c c.in-Some.ensures.0 c.in-Some.ensures.2 (sym c.is_empty.ensures ∙ c.if-is_empty.true)) ∙ c.characters.invariant.1
