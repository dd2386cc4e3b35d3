use Rattle.std.proofs.Common.{◌∙◌, List, ap}
use Rattle.log_model.specs.History.{Numbered, rows_in}
use Rattle.log_model.specs.Row.{batch_weight}
use Rattle.block_body.specs.Outline.{Outline}
use Rattle.block_body.proofs.WeightLaws.{weight-in}
use Rattle.column_block.proofs.block.Block.weight.Goals as goal

pub returns : goal.returns
returns c =
    c.weight.ensures
    ∙ ap (λ (o : Outline). o.weight) c.head.ensures.outline
    ∙ weight-in c.self.inside.stored
    ∙ ap (λ (rows : List Numbered). batch_weight (rows_in rows)) c.self.view_is
