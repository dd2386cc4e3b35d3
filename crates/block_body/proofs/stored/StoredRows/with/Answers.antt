use Rattle.std.proofs.Common.{◌∙◌, ap}
use Rattle.std.specs.Arc.{arc_value}
use Rattle.block_body.specs.declared.body.Body.{Body}
use Rattle.block_body.proofs.StoreLaws.{stored}
use Rattle.block_body.proofs.stored.StoredRows.with.Goals as goal

pub invariant_of-result : goal.invariant_of-result
invariant_of-result c =
    (stored c.args.head c.args.keys.now c.args.columns (arc_value c.in_ok-shared.shared) c.in_ok-batches.batches
    (ap (λ (b : Body). b.times.items) c.in_ok-shared.ensures.ok ∙ c.in_ok-body.ensures.times)
    (ap (λ (b : Body). b.places.items) c.in_ok-shared.ensures.ok ∙ c.in_ok-body.ensures.places)
    (ap (λ (b : Body). b.columns) c.in_ok-shared.ensures.ok ∙ c.in_ok-body.ensures.columns)
    c.in_ok-batches.ensures.wide c.in_ok-batches.ensures.numbers c.requires).1

pub returns : goal.returns
returns c =
    (stored c.args.head c.args.keys.now c.args.columns (arc_value c.in_ok-shared.shared) c.in_ok-batches.batches
    (ap (λ (b : Body). b.times.items) c.in_ok-shared.ensures.ok ∙ c.in_ok-body.ensures.times)
    (ap (λ (b : Body). b.places.items) c.in_ok-shared.ensures.ok ∙ c.in_ok-body.ensures.places)
    (ap (λ (b : Body). b.columns) c.in_ok-shared.ensures.ok ∙ c.in_ok-body.ensures.columns)
    c.in_ok-batches.ensures.wide c.in_ok-batches.ensures.numbers c.requires).0
