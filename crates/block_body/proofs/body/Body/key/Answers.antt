use Rattle.std.proofs.Common.{◌∙◌, ℕ, ℤ, List, Some, ap, sym}
use Rattle.block_model.specs.declared.keys.Key.{Key}
use Rattle.block_body.specs.Held.{key_at}
use Rattle.block_body.proofs.StoreLaws.{key-held}
use Rattle.block_body.proofs.body.Body.key.Goals as goal

pub returns : goal.returns
returns c =
    let times : List ℤ = c.args.self.now.times.items in
    let places : List ℕ = c.args.self.now.places.items in
    key-held c.args.self.now c.args.batches.now c.args.i c.requires.even c.requires.time
    ∙ ap (λ (n : ℕ). Some (key_at times places n c.args.i)) (sym c.number_at-batch.ensures)
    ∙ ap (λ (l : List ℤ). Some (key_at l places c.number_at-batch.result c.args.i)) (sym c.as_slice.ensures.value)
    ∙ ap (λ (l : List ℕ). Some (key_at c.as_slice.result.now l c.number_at-batch.result c.args.i)) (sym
    c.as_slice-2.ensures.value)
    ∙ ap (λ (k : Key). Some k) (sym c.key_at.ensures)
