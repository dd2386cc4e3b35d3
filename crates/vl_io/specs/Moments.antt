-- The moments that a clock gives, in nanoseconds since the start of 1970.
-- A clock may tell which it gave so far. It may stop telling, and does not begin again.
use Rattle.std.specs.Prelude.{◌≡◌, ℕ, ◌^◌, ◌<◌, ℤ, pos, unsigned_abs, List, [], ◌∷◌, ◌++◌, Option, None, Some, ⊤}

-- t is in 0..2^63
abbrev pub IsMoment : ℤ → Type 0
IsMoment t = (unsigned_abs t < 2 ^ 63) × (t ≡ pos (unsigned_abs t))

-- one more moment was given
abbrev pub Tells : Option (List ℕ) → Option (List ℕ) → ℤ → Type 0
Tells old None t = ⊤
Tells None (Some new) t = ⊥
Tells (Some old) (Some new) t = new ≡ old ++ unsigned_abs t ∷ []

-- of the moments that were given meanwhile, t is the first
abbrev pub FirstTold : Option (List ℕ) → Option (List ℕ) → ℕ → Type 0
FirstTold old None t = ⊤
FirstTold None (Some new) t = ⊥
FirstTold (Some old) (Some new) t = (rest : List ℕ) × (new ≡ old ++ t ∷ rest)
