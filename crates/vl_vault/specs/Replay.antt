-- Which files a past touches, and whether a vault that begins with crash contents has those of each of them.
use Rattle.std.specs.Prelude.{◌≡◌, ◌⊎◌, ℕ, ◌==◌, ◌||◌, Bool, true, false, List, [], ◌∷◌, Option, Some, None, MatchBool}
use Rattle.vl_vault.specs.Disk.{Event, NoChange, Began, Wrote, Shortened, Synced, Past, content, MayLeave}
use Rattle.vl_vault.specs.Moments.{IsDurable}

-- the file that a call was on
abbrev pub file_of : Event → Option ℕ
file_of NoChange = None
file_of (Began file bytes) = Some file
file_of (Wrote file at size after) = Some file
file_of (Shortened file len after) = Some file
file_of (Synced file) = Some file

abbrev pub is_file : Option ℕ → ℕ → Bool
is_file None file = false
is_file (Some f) file = f == file

abbrev pub touches : Past → ℕ → Bool
touches [] file = false
touches (event ∷ past) file = is_file (file_of event) file || touches past file

-- The file begins with a content that a crash may leave, unless it did before.
abbrev pub BeginsFile : Past → Past → Past → ℕ → Type 0
BeginsFile base old new file =
    ((touches old file ≡ true) × (new ≡ old))
    ⊎ ((bytes : List ℕ) × MayLeave base file bytes × (new ≡ Began file bytes ∷ old))

-- The file begins with a content that a crash may leave, or no call so far was on it. Nothing of it is pending.
abbrev pub Covers : Past → Past → Past → ℕ → Type 0
Covers base past begun file =
    MatchBool (touches begun file) (MayLeave base file (content begun file)) (touches past file ≡ false)
    × IsDurable begun file
