use Rattle.std.proofs.Common.{◌∙◌, ap, sym}
use Rattle.block_format.specs.Rows.{labels_of}
use Rattle.block_body.specs.Outline.{Outline}
use Rattle.part_picks.proofs.RangeLaws.{range-labels}
use Rattle.part_picks.proofs.pick.Pick.stream.Goals as goal

pub returns : goal.returns
returns c =
    c.stream.ensures ∙ ap (λ (o : Outline). o.labels) c.head.ensures.outline ∙ sym (range-labels c.self.inside.block.now
    c.self.inside.from c.self.inside.to c.self.invariant) ∙ ap labels_of c.self.view_is
