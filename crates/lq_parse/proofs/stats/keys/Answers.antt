use Rattle.std.proofs.Common.{[], ◌∷◌, map, ap, ◌∙◌}
use Rattle.std.proofs.lemmas.List.{map-append}
use Rattle.lq_ast.specs.PipeView.{group_by}
use Rattle.lq_grammar.specs.declared.role.Role.TheVariants.{Comma}
use Rattle.lq_grammar.specs.Roles.{any}
use Rattle.lq_grammar.specs.LogsQL.{key}
use Rattle.lq_parse_filter.proofs.Behind.{item_more, item_shorter}
use Rattle.lq_parse.proofs.stats.keys.Goals as goal

pub others-smaller : goal.others-smaller
others-smaller c =
    item_shorter 0 (any (Comma ∷ [])) key c.others.rest.now c.in-Some.next.now (group_by c.in_ok-another.another)
    c.in_ok-another.behind.now c.in-Some.ensures (c.in_ok-another.ensures 0)

pub others-preserved : goal.others-preserved
others-preserved c depth =
    item_more depth (any (Comma ∷ [])) key (map group_by c.others.keys.items) _ c.others.rest.now
    c.in-Some.next.now (group_by c.in_ok-another.another) c.in_ok-another.behind.now _ c.in-Some.ensures
    (c.in_ok-another.ensures depth) (ap (map group_by) c.in_ok-push-2.ensures.items ∙ map-append group_by c.others.keys.items _) (c.others.invariant depth)
