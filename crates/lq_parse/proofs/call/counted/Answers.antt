use Rattle.std.proofs.Common.{sym, ap, ◌∙◌, Ok, List, ℕ}
use Rattle.lq_parse.proofs.Firsts.{counted_some, counted_none}
use Rattle.lq_parse.proofs.call.counted.Goals as goal

pub returns-then-at : goal.returns-then-at
returns-then-at c depth =
    rw (counted_some depth c.args.tokens.now c.in_default.ensures (sym c.at.ensures ∙ c.if-at.true))
    (c.names.ensures depth)

pub returns : goal.returns
returns c depth =
    counted_none depth c.args.tokens.now c.in_default.ensures (sym c.at.ensures ∙ c.if-at.false)
    ∙ ap (λ (l : List (List ℕ)). Ok (l, c.args.tokens.now)) (sym (c.of-2.ensures ∙ c.new-2.ensures.items))
