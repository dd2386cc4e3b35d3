use Rattle.std.proofs.lemmas.Result.{IfOk-weaker}
use Rattle.std.proofs.Common.{◌∙◌}
use Rattle.lq_filter.proofs.Folding.{case_folded-ascii}
use Rattle.lq_filter.proofs.value.case_folded.Goals as goal

pub returns-then-is_ascii : goal.returns-then-is_ascii
returns-then-is_ascii c =
    let folded = case_folded-ascii c.args.text.now c.if-is_ascii.ensures.cases in
    IfOk-weaker c.to_ascii_lowercase.result _ _ (λ lower is. is ∙ folded) c.to_ascii_lowercase.ensures.ok
