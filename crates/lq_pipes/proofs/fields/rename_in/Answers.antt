use Rattle.std.proofs.Common.{ap, ◌∙◌, sym}
use Rattle.lq_ast.specs.PipeView.{name_pair}
use Rattle.lq_ast.specs.Records.{renamed}
use Rattle.lq_pipes.proofs.Walked.{fold_more}
use Rattle.lq_pipes.proofs.fields.rename_in.Goals as goal

pub loop-pair-preserved : goal.loop-pair-preserved
loop-pair-preserved c =
    c.in_ok-rename_one.ensures ∙ ap (λ r. renamed r (name_pair c.pair-item.result)) c.loop-pair.invariant
    ∙ sym (fold_more renamed name_pair c.args.r.now c.args.pairs.now c.loop-pair.pair-index c.pair-item.result
    c.loop-pair-test.true c.pair-item.is)
