use Rattle.std.proofs.Common.{ap, ◌∙◌, sym}
use Rattle.lq_ast.specs.PipeView.{name_pair}
use Rattle.lq_ast.specs.Records.{copied}
use Rattle.lq_pipes.proofs.Walked.{fold_more}
use Rattle.lq_pipes.proofs.fields.copy_in.Goals as goal

pub loop-pair-preserved : goal.loop-pair-preserved
loop-pair-preserved c =
    c.in_ok-copy_one.ensures ∙ ap (λ r. copied r (name_pair c.pair-item.result)) c.loop-pair.invariant
    ∙ sym (fold_more copied name_pair c.args.r.now c.args.pairs.now c.loop-pair.pair-index c.pair-item.result
    c.loop-pair-test.true c.pair-item.is)
