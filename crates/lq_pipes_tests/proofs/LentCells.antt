-- Cells of which the first is empty.
use Rattle.std.proofs.Common.{◌≡◌, ℕ, zero, suc, ◌-◌, ◌<◌, List, [], ◌∷◌, Some, arith, subst, sym}
use Rattle.std.specs.List.{slice_get}
use Rattle.std.proofs.lemmas.Option.{get_or_from_slice_get}
use Rattle.log_model.specs.Field.{Field}
use Rattle.lent_row.specs.Cells.{cell_at}

pub cell_after : (fields : List Field) (place : ℕ) (field : Field) → 0 < place → slice_get fields (place - 1) ≡ Some field
    → field ≡ cell_at (([], []) ∷ fields) place
cell_after fields zero field later at = absurd (omega (arith, later))
cell_after fields (suc before) field later at =
    let same : suc before - 1 ≡ before = omega arith in
    sym (get_or_from_slice_get fields before field ([], []) (subst (λ n. slice_get fields n ≡ Some field) same at))
