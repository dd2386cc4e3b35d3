use Rattle.std.proofs.Common.{◌∙◌, ap, subst, sym}
use Rattle.std.proofs.lemmas.Result.{on_ok_weaker}
use Rattle.lq_ast.specs.Stage.{Statistic}
use Rattle.lq_stats.proofs.Gathering.{asked_one}
use Rattle.lq_stats.specs.Function.{scanned_statistic}
use Rattle.lq_stats.specs.State.{Takes}
use Rattle.lq_stats.proofs.groups.add_to.Goals as goal

pub returns-clause-taken : goal.returns-clause-taken
returns-clause-taken c = on_ok_weaker c.add.result
    (λ takes. asked_one (scanned_statistic c.args.scan.now) c.args.state.now c.add.new.self c.args.fields.now
    (sym c.in_ok-is_asked.ensures.value ∙ c.if-not-branch.false)
    (subst (λ names. Takes names c.args.state.now c.add.new.self c.args.fields.now)
    (c.as_slice.ensures.value ∙ ap (λ (s : Statistic). s.names) c.is_asked.ensures.same) takes)
    c.add.ensures.call) c.add.ensures.taken
