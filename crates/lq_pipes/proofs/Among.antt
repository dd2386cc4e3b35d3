-- The fields that several conditions ask, as lists.
use Rattle.std.proofs.Common.{◌≡◌, List, [], ◌∷◌, ◌++◌, ap, flat_map, refl}
use Rattle.lq_ast.specs.Condition.{Condition, conditions}
use Rattle.lq_pipes.specs.Needs.{asked_among, asked_by}

pub asked_list : (xs : List Condition) → asked_among (conditions xs) ≡ flat_map asked_by xs
asked_list [] = refl
asked_list (x ∷ xs) = ap (λ ys. asked_by x ++ ys) (asked_list xs)
