-- The disk model: what the calls on a vault did, what a read gives after them, and what a crash may leave.
use Rattle.std.specs.Prelude.{◌≡◌, ◌⊎◌, ℕ, ◌+◌, ◌<◌, ◌≤◌, max, ◌==◌, if◌then◌else◌, MatchBool}
use Rattle.std.specs.Prelude.{List, [], ◌∷◌, length, take, slice_index}

-- What one call did to the files. `after` is what a read of the file gives once the call is over.
pub data Event : Type 0 where
  NoChange : Event  -- a read, or a sync that failed
  Began : (file : ℕ) (bytes : List ℕ) → Event  -- before the first call: the file has this content
  Wrote : (file at size : ℕ) (after : List ℕ) → Event  -- a write of this many bytes at `at`, whole or not
  Shortened : (file len : ℕ) (after : List ℕ) → Event  -- a cut to this length, done or not; a removal is a cut to 0
  Synced : (file : ℕ) → Event

-- the events so far, the newest first
abbrev pub Past : Type 0
Past = List Event

-- what a read of the file gives after one event more
abbrev pub content_after : List ℕ → Event → ℕ → List ℕ
content_after old NoChange file = old
content_after old (Began f bytes) file = if f == file then bytes else old
content_after old (Wrote f at size after) file = if f == file then after else old
content_after old (Shortened f len after) file = if f == file then after else old
content_after old (Synced f) file = old

-- What a read of the file gives. A file is empty until it is written.
abbrev pub content : Past → ℕ → List ℕ
content [] file = []
content (event ∷ past) file = content_after (content past file) event file

-- After a write of `size` bytes at `at`, any bytes may stand in that range and past the old end, and the length may be
-- any between the old one and the range's end. All other bytes stay.
pub record IsTorn (at size : ℕ) (old new : List ℕ) : Type 0 where
  pub no_shorter : length old ≤ length new
  pub no_longer : length new ≤ max (length old) (at + size)
  pub below : (i : ℕ) → i < length old → i < at → slice_index new i ≡ slice_index old i
  pub above : (i : ℕ) → i < length old → at + size ≤ i → slice_index new i ≡ slice_index old i

-- as before a cut, or as after it
abbrev pub IsCut : ℕ → List ℕ → List ℕ → Type 0
IsCut len old new = (new ≡ old) ⊎ (new ≡ take len old)

-- What a crash may leave of the file: each write since its last sync may be torn, and each cut may not have happened.
abbrev pub MayLeave : Past → ℕ → List ℕ → Type 0
MayLeave [] file bytes = bytes ≡ []
MayLeave (NoChange ∷ past) file bytes = MayLeave past file bytes
MayLeave (Began f held ∷ past) file bytes = MatchBool (f == file) (bytes ≡ held) (MayLeave past file bytes)
MayLeave (Wrote f at size after ∷ past) file bytes =
    MatchBool (f == file)
    ((old : List ℕ) × MayLeave past file old × IsTorn at size old bytes)
    (MayLeave past file bytes)
MayLeave (Shortened f len after ∷ past) file bytes =
    MatchBool (f == file) ((old : List ℕ) × MayLeave past file old × IsCut len old bytes) (MayLeave past file bytes)
MayLeave (Synced f ∷ past) file bytes = MatchBool (f == file) (bytes ≡ content past file) (MayLeave past file bytes)

-- the content of each file
abbrev pub Image : Type 0
Image = ℕ → List ℕ

-- a crash at this moment may leave these contents
abbrev pub IsCrashImage : Past → Image → Type 0
IsCrashImage past image = (file : ℕ) → MayLeave past file (image file)
