-- What was put at a place of a list.
use Rattle.std.proofs.Common.{◌≡◌, ◌<◌, ℕ, List, length, Some, ap, arith, ◌∙◌}
use Rattle.std.specs.Prelude.{slice_get, slice_set}
use Rattle.std.proofs.lemmas.List.{get_or-set_same, length-set}
use Rattle.std.proofs.lemmas.Option.{slice_get-get_or}

pub slice_get-slice_set : {X : Type 0} (xs : List X) (place : ℕ) (x : X) → place < length xs
    → slice_get (slice_set xs place x) place ≡ Some x
slice_get-slice_set xs place x below =
    slice_get-get_or (slice_set xs place x) place x (omega (arith, below, length-set xs place x))
    ∙ ap Some (get_or-set_same xs place x x below)
