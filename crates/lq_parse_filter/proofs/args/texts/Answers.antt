use Rattle.std.proofs.Common.{List, Ok, sym, ap, ◌∙◌}
use Rattle.lq_grammar.specs.Values.{Bytes}
use Rattle.lq_parse_filter.proofs.Firsts.{texts_some, texts_none}
use Rattle.lq_parse_filter.proofs.args.texts.Goals as goal

pub returns-then-at_arg : goal.returns-then-at_arg
returns-then-at_arg c depth =
    rw (texts_some depth c.args.tokens.now (sym c.at_arg.ensures ∙ c.if-at_arg.true))
    (c.args-then-at_arg.ensures depth)

pub returns : goal.returns
returns c depth =
    texts_none depth c.args.tokens.now (sym c.at_arg.ensures ∙ c.if-at_arg.false)
    ∙ ap (λ (l : List Bytes). Ok (l, c.args.tokens.now)) (sym c.new.ensures.items)
