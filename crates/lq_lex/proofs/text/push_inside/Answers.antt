use Rattle.std.proofs.Common.{refl}
use Rattle.std.proofs.lemmas.Result.{on_ok_weaker}
use Rattle.lq_lex.proofs.TextLaws.{cut_run, done, one_left}
use Rattle.lq_lex.proofs.text.push_inside.Goals as goal

pub prefix-requires : goal.prefix-requires
prefix-requires c = cut_run c.args.quote c.args.text.now c.plain_end-here.result.now c.utf8.text c.plain_end-here.utf8 c.plain_end-here.ensures

pub returns-then-here-le1-clause-value : goal.returns-then-here-le1-clause-value
returns-then-here-le1-clause-value c = on_ok_weaker c.push_str.result (λ appended.
    done c.args.quote c.args.text.now c.plain_end-here.result.now c.prefix.result.now c.args.out.now c.push_str.new.self _ c.utf8.text c.plain_end-here.utf8 c.plain_end-here.ensures c.prefix.ensures appended
    (one_left c.plain_end-here.result.now c.args.quote c.plain_end-here.utf8 c.if-here-le1.true) refl) c.push_str.ensures.ok
