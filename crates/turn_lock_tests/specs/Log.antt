-- The list that a log stands for.
use Rattle.std.specs.Prelude.{◌≡◌, ◌≤◌, ℕ, List, [], ◌∷◌, length}
use Rattle.std.proofs.Common.{arith, ap}
use Rattle.turn_lock_tests.specs.declared.log.Log.{Log}

abbrev pub stands : Log → List ℕ → Type 0
stands log numbers = log.items.items ≡ numbers

abbrev pub marked : Log → ℕ
marked log = log.settled

pub within : (log : Log) (numbers : List ℕ) → stands log numbers → marked log ≤ length numbers
within log numbers e = let l = ap length e in let w = log.within in omega arith

-- the last one; 0, where there is none
abbrev pub last_of : List ℕ → ℕ
last_of [] = 0
last_of (x ∷ []) = x
last_of (x ∷ y ∷ ys) = last_of (y ∷ ys)

abbrev pub newest : Log → ℕ
newest log = last_of log.items.items
