-- What holds at every moment of a call, and of calls one after another. A moment is the past up to then. What a crash
-- inside a call on the vault may leave is among what a crash after that call may leave.
use Rattle.std.specs.Prelude.{◌≡◌, ◌≢◌, ℕ, List, ◌∷◌}
use Rattle.vl_vault.specs.Disk.{Event, Past, content, MayLeave, Image, IsCrashImage}

-- Q holds at each moment, from `old` to the last
pub data Always (Q : Past → Type 0) (old : Past) : Past → Type 0 where
  now : Q old → Always Q old old
  more : {new : Past} {event : Event} → Always Q old new → Q (event ∷ new) → Always Q old (event ∷ new)

-- each image that a crash at this moment may leave has P
abbrev pub EachImage : (Image → Type 0) → Past → Type 0
EachImage P past = (image : Image) → IsCrashImage past image → P image

-- Nothing is pending: a crash leaves what a read gives.
abbrev pub IsDurable : Past → ℕ → Type 0
IsDurable past file = (bytes : List ℕ) → MayLeave past file bytes → bytes ≡ content past file

-- Since `old` only this file changed, and both what a crash may leave of it and what a read gives have P.
pub record ChangesFile (file : ℕ) (P : List ℕ → Type 0) (old past : Past) : Type 0 where
  pub left : (bytes : List ℕ) → MayLeave past file bytes → P bytes
  pub read : P (content past file)
  pub others : (other : ℕ) → other ≢ file → (bytes : List ℕ) → MayLeave past other bytes → MayLeave old other bytes
  pub others_read : (other : ℕ) → other ≢ file → content past other ≡ content old other

-- Since `old` only these files changed, and each image that a crash may leave has P.
pub record ChangesFiles (Touched : ℕ → Type 0) (P : Image → Type 0) (old past : Past) : Type 0 where
  pub image : EachImage P past
  pub others : (other : ℕ) → (Touched other → ⊥)
      → (bytes : List ℕ) → MayLeave past other bytes → MayLeave old other bytes
  pub others_read : (other : ℕ) → (Touched other → ⊥) → content past other ≡ content old other

-- Since `old` no file changed.
pub record IsUnchanged (old past : Past) : Type 0 where
  pub left : (file : ℕ) (bytes : List ℕ) → MayLeave past file bytes → MayLeave old file bytes
  pub read : (file : ℕ) → content past file ≡ content old file
