-- What reading the live list promises.
use Rattle.std.specs.Prelude.{◌≡◌, ◌≢◌, ◌⊎◌, ℕ, ◌≤◌, List, ◌∷◌, length, take, drop, Option, Some, None, true, ⊤}
use Rattle.std.specs.Int.{w16, from_le_bytes}
use Rattle.byte_format.specs.Spelling.{IsDamagedAt}
use Rattle.vl_vault.specs.Disk.{Image}
use Rattle.parts_list.specs.declared.list.List.{List as Listing}
use Rattle.parts_list.specs.declared.list.ListFault.{ListFault}
use Rattle.parts_list.specs.declared.list.ListFault.TheVariants.{VaultFault, Memory, Damaged, Version}
use Rattle.parts_list.specs.Format.{magic, slot_format, slot_writing}
use Rattle.parts_list.specs.Listing.{is_list}
use Rattle.parts_list.specs.Slots.{Slot, Closed, Broken, Open, slot_of}

-- The gate is open, the magic is right, and a whole version follows.
abbrev pub HasVersion : List ℕ → ℕ → Type 0
HasVersion bytes version =
    (take 7 bytes ≡ 1 ∷ magic) × (9 ≤ length bytes) × (from_le_bytes w16 (take 2 (drop 7 bytes)) ≡ version)

-- The slot has a list of another version.
abbrev pub HasOtherVersion : List ℕ → ℕ → Type 0
HasOtherVersion bytes version = HasVersion bytes version × (version ≢ 1)

-- what a slot that was read has
abbrev pub slot_with : Option Listing → Slot
slot_with None = Closed
slot_with (Some l) = Open l

-- A list that was read keeps the rules of a list.
abbrev pub KeepsRules : Option Listing → Type 0
KeepsRules None = Unit {0}
KeepsRules (Some l) = is_list l ≡ true

-- The slot is open and has no list.
abbrev pub IsBroken : ℕ → List ℕ → Type 0
IsBroken slot bytes = slot_of slot bytes ≡ Broken

-- Why the list of a slot was not read. Only `Damaged` and `Version` say something of its bytes.
abbrev pub IsFaultIn : ListFault → ℕ → List ℕ → Type 0
IsFaultIn VaultFault slot bytes = ⊤
IsFaultIn Memory slot bytes = ⊤
IsFaultIn (Damaged s at) slot bytes =
    (s ≡ slot) × IsBroken slot bytes × ((version : ℕ) → HasOtherVersion bytes version → ⊥)
    × IsDamagedAt slot_format (slot_writing slot) bytes at
IsFaultIn (Version s found) slot bytes = (s ≡ slot) × IsBroken slot bytes × HasOtherVersion bytes found

-- The fault is that of the first open slot that has no list.
abbrev pub IsFaultOf : ListFault → Image → Type 0
IsFaultOf fault image =
    IsFaultIn fault 0 (image 0) ⊎ ((slot_of 0 (image 0) ≢ Broken) × IsFaultIn fault 1 (image 1))
