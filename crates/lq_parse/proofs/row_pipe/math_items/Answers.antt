use Rattle.std.proofs.Common.{[], ◌∷◌, map, ap, ◌∙◌}
use Rattle.std.proofs.lemmas.List.{map-append}
use Rattle.lq_ast.specs.MakingView.{math_item}
use Rattle.lq_grammar.specs.declared.role.Role.TheVariants.{Comma}
use Rattle.lq_grammar.specs.Roles.{any}
use Rattle.lq_grammar.specs.LogsQL.{math_item as rule}
use Rattle.lq_parse_filter.proofs.Behind.{item_more, item_shorter}
use Rattle.lq_parse.proofs.row_pipe.math_items.Goals as goal

pub others-smaller : goal.others-smaller
others-smaller c =
    item_shorter c.args.depth (any (Comma ∷ [])) rule c.others.rest.now c.in-Some.next.now
    (math_item c.in_ok-another.another) c.in_ok-another.behind.now c.in-Some.ensures c.in_ok-another.ensures

pub others-preserved : goal.others-preserved
others-preserved c =
    item_more c.args.depth (any (Comma ∷ [])) rule (map math_item c.others.items.items) _ c.others.rest.now
    c.in-Some.next.now (math_item c.in_ok-another.another) c.in_ok-another.behind.now _ c.in-Some.ensures
    c.in_ok-another.ensures
    (ap (map math_item) c.in_ok-push-2.ensures.items ∙ map-append math_item c.others.items.items _) c.others.invariant
