use Rattle.lq_lex.proofs.TextLaws.{quoted_is}
use Rattle.lq_lex.proofs.text.text_of.Goals as goal

pub returns-in-Quoted-clause-quoted : goal.returns-in-Quoted-clause-quoted
returns-in-Quoted-clause-quoted c quoted is = quoted_is c.args.t.now.kind c.args.t.now.span.now quoted is
