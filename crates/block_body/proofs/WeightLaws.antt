-- The weight of rows is that of a batch of them.
use Rattle.std.proofs.Common.{◌≡◌, ℕ, ◌+◌, List, [], ◌∷◌, refl, sym, ap, ◌∙◌}
use Rattle.std.proofs.lemmas.List.Sums.{sum_by-cons}
use Rattle.log_model.specs.Field.{weight}
use Rattle.log_model.specs.History.{Numbered, rows_in}
use Rattle.log_model.specs.Row.{Row, batch_weight}
use Rattle.block_body.specs.Outlines.{weight_of}

pub weight-in : (rows : List Numbered) → weight_of rows ≡ batch_weight (rows_in rows)
weight-in [] = refl
weight-in (row ∷ rows) =
    sum_by-cons (λ (n : Numbered). weight n.row.fields) row rows
    ∙ ap (λ (k : ℕ). weight row.row.fields + k) (weight-in rows)
    ∙ sym (sum_by-cons (λ (r : Row). weight r.fields) row.row (rows_in rows))
