use Rattle.std.proofs.Common.{◌∙◌, ap, subst, sym}
use Rattle.std.specs.Arc.{arc_value}
use Rattle.block_body.specs.Held.{IsStored, rows_held}
use Rattle.block_body.specs.Outline.{Outline}
use Rattle.block_body.specs.declared.body.Batches.{Batches}
use Rattle.block_body.specs.declared.body.Body.{Body}
use Rattle.block_body.proofs.StoreLaws.{shared-stored}
use Rattle.block_body.proofs.stored.StoredRows.share.Goals as goal

pub invariant_of-result : goal.invariant_of-result
invariant_of-result c =
    let b : Batches = c.in_ok-batches.batches in
    let s = shared-stored c.self.inside.head (arc_value c.self.inside.body) c.self.inside.batches c.in_ok-batches.batches
    c.in_ok-batches.ensures.numbers c.in_ok-batches.ensures.wide c.self.invariant in
    let one = subst (λ (x : Body). IsStored (rows_held c.self.inside.head x b) c.self.inside.head x b) (sym
    c.in_ok-body.ensures) s.1 in
    subst (λ (o : Outline). IsStored (rows_held o (arc_value c.in_ok-body.body) b) o (arc_value c.in_ok-body.body) b) (sym
    c.in_ok-head.ensures) one

pub returns : goal.returns
returns c =
    let b : Batches = c.in_ok-batches.batches in
    let s = shared-stored c.self.inside.head (arc_value c.self.inside.body) c.self.inside.batches c.in_ok-batches.batches
    c.in_ok-batches.ensures.numbers c.in_ok-batches.ensures.wide c.self.invariant in
    ap (λ (o : Outline). rows_held o (arc_value c.in_ok-body.body) b) c.in_ok-head.ensures
    ∙ ap (λ (x : Body). rows_held c.self.inside.head x b) c.in_ok-body.ensures
    ∙ s.0
    ∙ c.self.view_is
