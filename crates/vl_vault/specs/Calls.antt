-- What each call on a vault adds to its past.
use Rattle.std.specs.Prelude.{◌≡◌, ◌⊎◌, ℕ, ◌+◌, List, ◌∷◌, ◌++◌, length, take, drop, Result, OnOk, MatchResult}
use Rattle.vl_vault.specs.Disk.{Event, NoChange, Wrote, Shortened, Synced, Past, content, IsTorn, IsCut}

-- The call is one event more. A call that failed may also have done nothing.
abbrev pub Adds : {T E : Type 0} → Result T E → Past → Event → Past → Type 0
Adds result old event new = MatchResult result (λ _. new ≡ event ∷ old) (λ _. (new ≡ event ∷ old) ⊎ (new ≡ old))

-- the bytes with these in place of those from `at` on, or past their end
abbrev pub overwritten : List ℕ → ℕ → List ℕ → List ℕ
overwritten old at bytes = take at old ++ bytes ++ drop (at + length bytes) old

abbrev pub DidRead : {T E : Type 0} → Past → Past → Result T E → Type 0
DidRead old new result = Adds result old NoChange new

-- A write that fails may have changed any bytes of its range.
pub record DidWrite {T E : Type 0} (old new : Past) (file at : ℕ) (bytes : List ℕ) (result : Result T E) : Type 0 where
  pub after : List ℕ
  pub adds : Adds result old (Wrote file at (length bytes) after) new
  pub torn : IsTorn at (length bytes) (content old file) after
  pub whole : OnOk result (after ≡ overwritten (content old file) at bytes)

-- A cut that fails may have happened.
pub record DidCut {T E : Type 0} (old new : Past) (file len : ℕ) (result : Result T E) : Type 0 where
  pub after : List ℕ
  pub adds : Adds result old (Shortened file len after) new
  pub cut : IsCut len (content old file) after
  pub whole : OnOk result (after ≡ take len (content old file))

-- A sync that fails promises nothing of the file.
abbrev pub DidSync : {T E : Type 0} → Past → Past → ℕ → Result T E → Type 0
DidSync old new file result =
    MatchResult result (λ _. new ≡ Synced file ∷ old) (λ _. (new ≡ NoChange ∷ old) ⊎ (new ≡ old))
