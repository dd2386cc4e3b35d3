-- A file that is written and synced.
use Rattle.std.proofs.Common.{◌≡◌, ℕ, List, ◌∷◌, Bool, true, false}
use Rattle.std.specs.Prelude.{◌==◌, MatchBool, if◌then◌else◌}
use Rattle.vl_vault.specs.Disk.{Past, Synced, Wrote, content, MayLeave, IsTorn}
use Rattle.vl_vault.specs.Moments.{IsDurable}

-- Where nothing was pending in a file, nothing is then.
pub durable_put : (old : Past) (file at size f : ℕ) (after : List ℕ) → IsDurable old f
    → IsDurable (Synced file ∷ (Wrote file at size after ∷ old)) f
durable_put old file at size f after was = λ c left. by_test (file == f) c left
  where
    by_test : (b : Bool) (c : List ℕ)
        → MatchBool b (c ≡ (if b then after else content old f))
        (MatchBool b ((d : List ℕ) × MayLeave old f d × IsTorn at size d c) (MayLeave old f c))
        → c ≡ (if b then after else content old f)
    by_test true c is = is
    by_test false c left = was c left
