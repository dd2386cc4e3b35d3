-- What the two slots say.
use Rattle.std.specs.Prelude.{◌≡◌, ◌≢◌, ◌⊎◌, ℕ, ◌==◌, nat_lt, if◌then◌else◌, Bool, false, List, [], ◌∷◌}
use Rattle.std.specs.Prelude.{Option, Some, None, Result, Ok, Err}
use Rattle.vl_vault.specs.Disk.{Image}
use Rattle.parts_list.specs.declared.list.List.{List as Listing}
use Rattle.parts_list.specs.Format.{slot_reading}

-- A slot is open where its first byte, the gate, is 1 and something stands after it. Every other slot is closed.
abbrev pub is_open : List ℕ → Bool
is_open [] = false
is_open (gate ∷ []) = false
is_open (gate ∷ b ∷ body) = gate == 1

pub data Slot : Type 0 where
  Closed : Slot
  Broken : Slot  -- open, and without a list
  Open : (l : Listing) → Slot

abbrev pub opened : Result Listing ℕ → Slot
opened (Ok l) = Open l
opened (Err left) = Broken

abbrev pub slot_of : ℕ → List ℕ → Slot
slot_of slot bytes = if is_open bytes then opened (slot_reading slot bytes) else Closed

-- The live list is the open one with the greater generation. `None` says that an open slot has no list, and
-- `Some None` that no slot is open.
abbrev pub live : Slot → Slot → Option (Option Listing)
live Closed Closed = Some None
live Closed (Open b) = Some (Some b)
live (Open a) Closed = Some (Some a)
live (Open a) (Open b) = Some (Some (if nat_lt a.generation b.generation then b else a))
live Closed Broken = None
live (Open a) Broken = None
live Broken other = None

-- the live list of an image
abbrev pub found_in : Image → Option (Option Listing)
found_in image = live (slot_of 0 (image 0)) (slot_of 1 (image 1))

-- A gate stands in the slot, and it is not open.
abbrev pub IsShut : List ℕ → Type 0
IsShut [] = ⊥
IsShut (gate ∷ body) = gate ≢ 1

-- closed, or as before
abbrev pub IsClosedOrOld : List ℕ → List ℕ → Type 0
IsClosedOrOld old bytes = (is_open bytes ≡ false) ⊎ (bytes ≡ old)

-- closed, or with an open gate before this body
abbrev pub IsClosedOrNew : List ℕ → List ℕ → Type 0
IsClosedOrNew body bytes = (is_open bytes ≡ false) ⊎ (bytes ≡ 1 ∷ body)

-- while a body comes into a slot
abbrev pub IsOldOrNew : List ℕ → List ℕ → List ℕ → Type 0
IsOldOrNew old body bytes = IsClosedOrOld old bytes ⊎ (bytes ≡ 1 ∷ body)
