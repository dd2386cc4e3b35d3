use Rattle.std.proofs.Common.{◌∙◌, ap, subst, sym}
use Rattle.block_format.specs.Rows.{IsBlock}
use Rattle.block_body.specs.Outline.{Outline}
use Rattle.block_body.specs.Outlines.{IsSpan, outline_of}
use Rattle.block_body.proofs.SpanLaws.{span}
use Rattle.block_body.proofs.stored.StoredRows.head.Goals as goal

pub returns-clause-outline : goal.returns-clause-outline
returns-clause-outline c = c.self.invariant.held.head_is ∙ ap outline_of c.self.view_is

pub returns-clause-times : goal.returns-clause-times
returns-clause-times c =
    subst (λ (o : Outline). IsSpan c.args.self.now o) (sym (returns-clause-outline c)) (span c.args.self.now (subst IsBlock
    c.self.view_is c.self.invariant.held.block))
