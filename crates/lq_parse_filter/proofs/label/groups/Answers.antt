use Rattle.std.proofs.Common.{[], ◌∷◌, map, ap, ◌∙◌}
use Rattle.std.proofs.lemmas.List.{map-append}
use Rattle.lq_ast.specs.View.{tests_of}
use Rattle.lq_grammar.specs.declared.role.Role.TheVariants.{Or}
use Rattle.lq_grammar.specs.Roles.{any}
use Rattle.lq_grammar.specs.LogsQL.{labels}
use Rattle.lq_parse_filter.proofs.Behind.{item_more, item_shorter}
use Rattle.lq_parse_filter.proofs.label.groups.Goals as goal

pub others-smaller : goal.others-smaller
others-smaller c =
    item_shorter 0 (any (Or ∷ [])) labels c.others.rest.now c.in-Some.next.now
    (tests_of c.in_ok-another.another) c.in_ok-another.behind.now c.in-Some.ensures (c.in_ok-another.ensures 0)

pub others-preserved : goal.others-preserved
others-preserved c depth =
    item_more depth (any (Or ∷ [])) labels (map tests_of c.others.groups.items) _ c.others.rest.now c.in-Some.next.now
    (tests_of c.in_ok-another.another) c.in_ok-another.behind.now _ c.in-Some.ensures (c.in_ok-another.ensures depth)
    (ap (map tests_of) c.in_ok-push-2.ensures.items ∙ map-append tests_of c.others.groups.items _)
    (c.others.invariant depth)
