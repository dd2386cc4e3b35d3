use Rattle.std.proofs.Common.{◌<◌, ◌∙◌, ap, length, subst, sym}
use Rattle.block_body.specs.Outline.{Outline}
use Rattle.block_format.specs.Rows.{labels_of}
use Rattle.block_gather.specs.Picked.{Picked, rows_of}
use Rattle.block_gather.proofs.HeadLaws.{slice-labels}
use Rattle.block_gather.proofs.SliceLaws.{slice-length}
use Rattle.block_gather.proofs.pick.Pick.stream.Goals as goal

pub returns-clause-labels : goal.returns-clause-labels
returns-clause-labels c =
    c.stream.ensures
    ∙ ap (λ (o : Outline). o.labels) c.head.ensures.outline
    ∙ sym (slice-labels c.self.inside.stored.now c.self.inside.from c.self.inside.to c.self.invariant.0 c.self.invariant.1
    c.rules.ensures.block)
    ∙ ap (λ (p : Picked). labels_of (rows_of p)) c.self.view_is

pub returns-clause-some : goal.returns-clause-some
returns-clause-some c =
    subst (λ (p : Picked). 0 < length (rows_of p)) c.self.view_is (slice-length c.self.inside.stored.now c.self.inside.from
    c.self.inside.to c.self.invariant.0 c.self.invariant.1)
