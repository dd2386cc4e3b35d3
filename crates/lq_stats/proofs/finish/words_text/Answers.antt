use Rattle.std.proofs.Common.{◌∙◌, ap, map}
use Rattle.std.proofs.lemmas.Result.{IfOk-weaker}
use Rattle.lq_ast.specs.Statistics.{array_text}
use Rattle.lq_stats.proofs.finish.words_text.Goals as goal

pub returns : goal.returns
returns c = IfOk-weaker c.try_of.result _ _
    (λ t e. e ∙ c.as_str.ensures.value ∙ c.in_ok-text.ensures
    ∙ ap (λ l. array_text (map (λ text. text.now) l)) c.as_slice.ensures.value
    ∙ ap array_text c.in_ok-texts.ensures) c.try_of.ensures
