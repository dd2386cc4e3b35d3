use Rattle.std.proofs.Common.{List, Ok, map, sym, ap, ◌∙◌}
use Rattle.lq_ast.specs.Condition.{Tests}
use Rattle.lq_ast.specs.View.{tests_of}
use Rattle.lq_parse_filter.proofs.Firsts.{groups_some, groups_none}
use Rattle.lq_parse_filter.proofs.label.optional_groups.Goals as goal

pub returns-then-at : goal.returns-then-at
returns-then-at c depth =
    rw (groups_some depth c.args.tokens.now (sym c.at.ensures ∙ c.if-at.true)) (c.groups.ensures depth)

pub returns : goal.returns
returns c depth =
    groups_none depth c.args.tokens.now (sym c.at.ensures ∙ c.if-at.false)
    ∙ ap (λ (l : List Tests). Ok (l, c.args.tokens.now)) (sym (ap (map tests_of) (c.of-groups.ensures ∙ c.new.ensures.items)))
