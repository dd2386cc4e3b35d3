use Rattle.lq_lex.specs.Token.{token_value}
use Rattle.lq_grammar.proofs.Listing.{one_more}
use Rattle.lq_grammar.proofs.item.items.Goals as goal

pub loop-i-preserved : goal.loop-i-preserved
loop-i-preserved c =
    one_more c.args.tokens.now c.loop-i.i (token_value c.at-token.result) c.loop-i.list.items _ c.in_ok-item.item
    c.at-token.ensures c.loop-i.invariant c.in_ok-item.ensures c.in_ok-push.ensures.items
