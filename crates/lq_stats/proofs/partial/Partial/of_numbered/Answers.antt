use Rattle.lq_ast.specs.PipeView.{grouping}
use Rattle.lq_stats.proofs.partial.Partial.of_numbered.Goals as goal

pub returns-clause-same : goal.returns-clause-same
returns-clause-same c =
    let planned = c.in_ok-plan.ensures.same in
    record { planned = planned; taken = c.in_ok-gathered.ensures.same (grouping c.args.p.now) planned }
