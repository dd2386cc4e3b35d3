use Rattle.std.proofs.Common.{[], ◌∷◌, map, ap, ◌∙◌}
use Rattle.std.proofs.lemmas.List.{map-append}
use Rattle.lq_ast.specs.PipeView.{stage}
use Rattle.lq_grammar.specs.declared.role.Role.TheVariants.{Bar}
use Rattle.lq_grammar.specs.Roles.{any}
use Rattle.lq_grammar.specs.LogsQL.{pipe}
use Rattle.lq_grammar.specs.Query.{most_open}
use Rattle.lq_parse_filter.proofs.Behind.{item_more, item_shorter}
use Rattle.lq_parse.proofs.pipes.pipes.Goals as goal

pub others-smaller : goal.others-smaller
others-smaller c =
    item_shorter most_open (any (Bar ∷ [])) pipe c.others.rest.now c.in-Some.next.now
    (stage c.in_ok-pipe.pipe) c.in_ok-pipe.behind.now c.in-Some.ensures c.in_ok-pipe.ensures

pub others-preserved : goal.others-preserved
others-preserved c =
    item_more most_open (any (Bar ∷ [])) pipe (map stage c.others.pipes.items) _ c.others.rest.now
    c.in-Some.next.now (stage c.in_ok-pipe.pipe) c.in_ok-pipe.behind.now _ c.in-Some.ensures c.in_ok-pipe.ensures
    (ap (map stage) c.in_ok-push.ensures.items ∙ map-append stage c.others.pipes.items _) c.others.invariant
