-- A clock in memory tells each moment that it gives, until it can't count its calls.
use Rattle.std.proofs.Common.{◌≡◌, ℕ, suc, ◌+◌, ◌-◌, ◌^◌, min, ℤ, Bool, true, false, List, [], ◌∷◌, ◌++◌, Some, None, ltb, refl, ap, ◌∙◌, arith, sym, unsigned_abs}
use Rattle.std.specs.Prelude.{if◌then◌else◌}
use Rattle.std.proofs.lemmas.Bool.Decides.{nat_tests}
use Rattle.vl_io.specs.Memory.{ClockState, moment_at, moments_of, moments_told}
use Rattle.vl_io.specs.Moments.{Tells}

tells_next : (told tells : Bool) (old new : List ℕ) (t : ℤ) → (tells ≡ true → told ≡ true) →
    (tells ≡ true → new ≡ old ++ unsigned_abs t ∷ [])
    → Tells (if told then Some old else None) (if tells then Some new else None) t
tells_next true true old new t p q = q refl
tells_next false true old new t p q = absurd (let h = p refl in cc)
tells_next true false old new t p q = tt
tells_next false false old new t p q = tt

moments_of-next : (moments : List ℤ) (calls after : ℕ) → after ≡ suc calls → moments_of moments after
    ≡ moments_of moments calls ++ unsigned_abs (moment_at moments calls) ∷ []
moments_of-next moments calls after e = ap (moments_of moments) e

in_count : (calls after limit : ℕ) → after ≡ min (calls + 1) limit → ltb after limit ≡ true → after ≡ suc calls ×
    (ltb calls limit ≡ true)
in_count calls after limit e p = (grind (arith, nat_tests), grind (arith, nat_tests))

pub tells_moment : (old new : ClockState) (t : ℤ) → new.moments ≡ old.moments → new.calls ≡ min (old.calls + 1)
    (2 ^ 64 - 1) → t ≡ moment_at old.moments old.calls
    → Tells (moments_told old) (moments_told new) t
tells_moment old new t same e given = tells_next _ _ _ _ t (λ p. (in_count _ _ _ e p).1)
    (λ p. ap (λ m. moments_of m new.calls) same ∙ moments_of-next old.moments old.calls new.calls
    (in_count _ _ _ e p).0 ∙ ap (λ x. moments_of old.moments old.calls ++ unsigned_abs x ∷ []) (sym given))
