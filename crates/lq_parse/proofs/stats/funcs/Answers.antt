use Rattle.std.proofs.Common.{[], ◌∷◌, map, ap, ◌∙◌}
use Rattle.std.proofs.lemmas.List.{map-append}
use Rattle.lq_ast.specs.PipeView.{statistic}
use Rattle.lq_grammar.specs.declared.role.Role.TheVariants.{Comma}
use Rattle.lq_grammar.specs.Roles.{any}
use Rattle.lq_grammar.specs.LogsQL.{func}
use Rattle.lq_parse_filter.proofs.Behind.{item_more, item_shorter}
use Rattle.lq_parse.proofs.stats.funcs.Goals as goal

pub others-smaller : goal.others-smaller
others-smaller c =
    item_shorter c.args.depth (any (Comma ∷ [])) func c.others.rest.now c.in-Some.next.now (statistic c.in_ok-another.another)
    c.in_ok-another.behind.now c.in-Some.ensures c.in_ok-another.ensures

pub others-preserved : goal.others-preserved
others-preserved c =
    item_more c.args.depth (any (Comma ∷ [])) func (map statistic c.others.funcs.items) _ c.others.rest.now
    c.in-Some.next.now (statistic c.in_ok-another.another) c.in_ok-another.behind.now _ c.in-Some.ensures
    c.in_ok-another.ensures (ap (map statistic) c.in_ok-push-2.ensures.items ∙ map-append statistic c.others.funcs.items _) c.others.invariant
