-- The last one of a list of places.
use Rattle.std.proofs.Common.{◌≡◌, ℕ, ◌<◌, List, [], ◌∷◌, ◌++◌, arith}
use Rattle.std.proofs.lemmas.Bool.Decides.{nat_tests}
use Rattle.turn_lock.specs.Totals.{times}
use Rattle.turn_lock.proofs.Sums.{times-append}

times_self : (n : ℕ) → times n (n ∷ []) ≡ 1
times_self n = grind (arith, nat_tests)

-- The place that a list of places ends with is among them.
pub times_last : (places before : List ℕ) (k : ℕ) → places ≡ before ++ k ∷ [] → 0 < times k places
times_last places before k e = rw e (omega (arith, times-append k before (k ∷ []), times_self k))
