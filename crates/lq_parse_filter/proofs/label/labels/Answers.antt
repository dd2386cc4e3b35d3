use Rattle.std.proofs.Common.{[], ◌∷◌, map, ap, ◌∙◌}
use Rattle.std.proofs.lemmas.List.{map-append}
use Rattle.lq_ast.specs.View.{test_of}
use Rattle.lq_grammar.specs.declared.role.Role.TheVariants.{Comma}
use Rattle.lq_grammar.specs.Roles.{any}
use Rattle.lq_grammar.specs.LogsQL.{label}
use Rattle.lq_parse_filter.proofs.Behind.{item_more, item_shorter}
use Rattle.lq_parse_filter.proofs.label.labels.Goals as goal

pub others-smaller : goal.others-smaller
others-smaller c =
    item_shorter 0 (any (Comma ∷ [])) label c.others.rest.now c.in-Some.next.now
    (test_of c.in_ok-another.another) c.in_ok-another.behind.now c.in-Some.ensures (c.in_ok-another.ensures 0)

pub others-preserved : goal.others-preserved
others-preserved c depth =
    item_more depth (any (Comma ∷ [])) label (map test_of c.others.labels.items) _ c.others.rest.now
    c.in-Some.next.now (test_of c.in_ok-another.another) c.in_ok-another.behind.now _ c.in-Some.ensures
    (c.in_ok-another.ensures depth)
    (ap (map test_of) c.in_ok-push-2.ensures.items ∙ map-append test_of c.others.labels.items _)
    (c.others.invariant depth)
