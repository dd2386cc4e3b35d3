use Rattle.std.proofs.Common.{◌≡◌, ◌∙◌, ap, subst}
use Rattle.block_format.specs.Rows.{IsBlock}
use Rattle.block_body.specs.Outlines.{outline_of}
use Rattle.column_block.proofs.OpenLaws.{all-labels}
use Rattle.column_block.proofs.open.Open.stream.Goals as goal

pub returns : goal.returns
returns c =
    let head : c.head.result.now ≡ outline_of c.args.self.now = c.head.ensures.outline ∙ ap outline_of c.self.view_is in
    let block = subst IsBlock c.self.view_is c.rules.ensures.block in
    all-labels c.args.self.now c.head.result.now c.stream.result.now head c.stream.ensures block.stream
