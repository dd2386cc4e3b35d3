use Rattle.std.proofs.Common.{[], ◌∷◌}
use Rattle.lq_grammar.specs.declared.role.Role.TheVariants.{Comma}
use Rattle.lq_grammar.specs.Roles.{any}
use Rattle.lq_grammar.specs.LogsQL.{name}
use Rattle.lq_parse_filter.proofs.Behind.{item_more, item_shorter}
use Rattle.lq_parse.proofs.names.names.Goals as goal

pub others-smaller : goal.others-smaller
others-smaller c =
    item_shorter 0 (any (Comma ∷ [])) name c.others.rest.now c.in-Some.next.now c.in_ok-another.another
    c.in_ok-another.behind.now c.in-Some.ensures c.in_ok-another.ensures

pub others-preserved : goal.others-preserved
others-preserved c depth =
    item_more depth (any (Comma ∷ [])) name c.others.names.items _ c.others.rest.now
    c.in-Some.next.now c.in_ok-another.another c.in_ok-another.behind.now _ c.in-Some.ensures
    c.in_ok-another.ensures c.in_ok-push-2.ensures.items (c.others.invariant depth)
