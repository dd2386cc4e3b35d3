-- Where a crash may leave what a read gives.
use Rattle.std.proofs.Common.{◌≡◌, inl, inr, ℕ, true, false, List, [], ◌∷◌, refl, sym, subst, arith}
use Rattle.std.specs.Prelude.{Bool, ◌==◌, MatchBool}
use Rattle.vl_vault.specs.Disk.{NoChange, Began, Wrote, Shortened, Synced, Past, content, MayLeave, Image}
use Rattle.vl_vault.specs.Disk.{IsCut, IsTorn, IsCrashImage}
use Rattle.vl_vault.specs.Moments.{Always, EachImage, IsDurable}
use Rattle.vl_vault.proofs.Runs.{weaken}
use Rattle.part_store.specs.Reopening.{IsOnlySynced}
use Rattle.vl_open.specs.Opening.{LeavesContent}

-- in a new vault
pub leaves-new : LeavesContent []
leaves-new file = refl

-- ---- where nothing is pending

whole_write : (at size : ℕ) (old : List ℕ) → IsTorn at size old old
whole_write at size old = record {
  no_shorter = omega arith;
  no_longer = omega arith;
  below = λ i inside before. refl;
  above = λ i inside after. refl;
}

-- what a crash leaves of a file
abbrev IsLeft : Past → ℕ → Type 0
IsLeft past file = (bytes : List ℕ) × MayLeave past file bytes

began : (b : Bool) (held : List ℕ) (P : List ℕ → Type 0) → (bytes : List ℕ) × P bytes
    → (bytes : List ℕ) × MatchBool b (bytes ≡ held) (P bytes)
began true held P was = (held, refl)
began false held P was = was

changed : (b : Bool) (P : List ℕ → Type 0) (R : List ℕ → List ℕ → Type 0) → ((old : List ℕ) → R old old)
    → (bytes : List ℕ) × P bytes
    → (bytes : List ℕ) × MatchBool b ((old : List ℕ) × P old × R old bytes) (P bytes)
changed true P R may_stay was = (was.0, (was.0, was.1, may_stay was.0))
changed false P R may_stay was = was

-- A crash leaves something of each file.
some_left : (past : Past) (file : ℕ) → IsLeft past file
some_left [] file = ([], refl)
some_left (NoChange ∷ past) file = some_left past file
some_left (Began f held ∷ past) file = began (f == file) held (MayLeave past file) (some_left past file)
some_left (Wrote f at size after ∷ past) file =
    changed (f == file) (MayLeave past file) (IsTorn at size) (whole_write at size) (some_left past file)
some_left (Shortened f len after ∷ past) file =
    changed (f == file) (MayLeave past file) (IsCut len) (λ old. inl refl) (some_left past file)
some_left (Synced f ∷ past) file = began (f == file) (content past file) (MayLeave past file) (some_left past file)

pub leaves-durable : (past : Past) → ((file : ℕ) → IsDurable past file) → LeavesContent past
leaves-durable past durable file =
    let left = some_left past file in subst (MayLeave past file) (durable file left.0 left.1) left.1

-- ---- after syncs and reads

-- each image is one of those before
image_before : (old past : Past) → LeavesContent old → IsOnlySynced old past → (image : Image)
    → IsCrashImage past image → IsCrashImage old image
image_before old past leaves synced image may file = elim (synced.left file (image file) (may file)) [
  | inl was ↦ was
  | inr is ↦ subst (MayLeave old file) (sym is) (leaves file)
]

pub images_stay : (P : Image → Type 0) (old new : Past) → LeavesContent old → EachImage P old
    → Always (IsOnlySynced old) old new → Always (EachImage P) old new
images_stay P old new leaves each run =
    weaken (λ p synced image may. each image (image_before old p leaves synced image may)) run
