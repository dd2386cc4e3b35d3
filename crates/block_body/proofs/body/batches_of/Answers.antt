use Rattle.std.proofs.Common.{◌∙◌, ap, length}
use Rattle.std.proofs.lemmas.List.{length-map}
use Rattle.block_model.specs.declared.keys.Key.{Key}
use Rattle.block_body.proofs.body.batches_of.Goals as goal

pub returns-clause-wide : goal.returns-clause-wide
returns-clause-wide c =
    ap (λ v. length v.items) c.in_ok-shared.ensures.ok ∙ ap length c.in_ok-numbers.ensures ∙ length-map c.args.keys.now
    (λ (key : Key). key.batch)

pub returns-clause-numbers : goal.returns-clause-numbers
returns-clause-numbers c = ap (λ v. v.items) c.in_ok-shared.ensures.ok ∙ c.in_ok-numbers.ensures
