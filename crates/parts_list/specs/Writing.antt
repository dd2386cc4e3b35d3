-- What writing a list promises.
use Rattle.std.specs.Prelude.{◌≡◌, ◌⊎◌, ℕ, ◌+◌, ◌<◌, ◌%◌, Option, Some, None, ⊤}
use Rattle.vl_io.specs.Faults.{Rose}
use Rattle.vl_vault.specs.Disk.{Past, content, Image}
use Rattle.vl_vault.specs.Moments.{IsDurable}
use Rattle.parts_list.specs.declared.list.List.{List as Listing}
use Rattle.parts_list.specs.declared.list.ListFault.{ListFault}
use Rattle.parts_list.specs.declared.list.ListFault.TheVariants.{VaultFault, Memory, Damaged, Version}
use Rattle.parts_list.specs.Slots.{found_in}

abbrev pub IsSlot : ℕ → Type 0
IsSlot file = file < 2

-- the slot into which a list is written
abbrev pub IsSlotOf : Listing → ℕ → Type 0
IsSlotOf l file = file ≡ l.generation % 2

-- nothing is pending in the slots
abbrev pub AreSlotsDurable : Past → Type 0
AreSlotsDurable past = (file : ℕ) → IsSlot file → IsDurable past file

-- the generation of the list that is written next
abbrev pub next_generation : Option Listing → ℕ
next_generation None = 1
next_generation (Some live) = live.generation + 1

-- Every open slot has a list, and this one comes next.
abbrev pub ComesNext : Option (Option Listing) → Listing → Type 0
ComesNext None l = ⊥
ComesNext (Some live) l = l.generation ≡ next_generation live

-- the list from before
abbrev pub HasOld : Past → Image → Type 0
HasOld old image = found_in image ≡ found_in (content old)

-- the list from before, or this one
abbrev pub HasOldOr : Past → Listing → Image → Type 0
HasOldOr old l image = HasOld old image ⊎ (found_in image ≡ Some (Some l))

-- Why a list was not written: the vault failed, or there was no memory.
abbrev pub IsCauseOf : ListFault → ℕ → ℕ → Type 0
IsCauseOf VaultFault before now = Rose before now
IsCauseOf Memory before now = ⊤
IsCauseOf (Damaged slot at) before now = ⊥
IsCauseOf (Version slot found) before now = ⊥
