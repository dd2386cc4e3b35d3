use Rattle.std.proofs.Common.{◌∙◌, List, ap, subst}
use Rattle.log_model.specs.History.{Numbered}
use Rattle.block_body.specs.Outlines.{IsSpan, outline_of}
use Rattle.column_block.proofs.block.Block.head.Goals as goal

pub returns-clause-outline : goal.returns-clause-outline
returns-clause-outline c = c.head.ensures.outline ∙ ap outline_of c.self.view_is

pub returns-clause-times : goal.returns-clause-times
returns-clause-times c =
    subst (λ (rows : List Numbered). IsSpan rows c.head.result.now) c.self.view_is c.head.ensures.times
