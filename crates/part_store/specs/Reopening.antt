-- What reopening a store promises.
use Rattle.std.specs.Prelude.{◌≡◌, ◌⊎◌, ℕ, ◌%◌, List, [], ◌∷◌, map, Option, Some, None, Result, Ok, Err, ⊤}
use Rattle.std.specs.List.{AllByRecursion, AllZip}
use Rattle.log_model.specs.History.{Numbered}
use Rattle.day_model.specs.Days.{LieInDay}
use Rattle.vl_vault.specs.Disk.{Past, Image, content, MayLeave}
use Rattle.vl_vault.specs.Moments.{IsDurable}
use Rattle.part_files.specs.Stored.{Fills, IsFileFault, IsStoredPart}
use Rattle.part_files.specs.declared.fault.FileFault.{FileFault}
use Rattle.part_files.specs.declared.fault.FileFault.TheVariants as file_faults
use Rattle.parts_list.specs.declared.list.Entry.{Entry}
use Rattle.parts_list.specs.declared.list.List.{List as Listing}
use Rattle.parts_list.specs.declared.list.ListFault.{ListFault}
use Rattle.parts_list.specs.declared.list.ListFault.TheVariants as list_faults
use Rattle.parts_list.specs.Reading as list_reading
use Rattle.parts_list.specs.Slots.{found_in}
use Rattle.part_batches.specs.Whole.{HoldBatches}
use Rattle.part_store.specs.State.{Listed, StoreState}
use Rattle.part_store.specs.Finds.{HasPart}
use Rattle.part_store.specs.declared.fault.ReopenFault.{ReopenFault}
use Rattle.part_store.specs.declared.fault.ReopenFault.TheVariants.{VaultFault, Memory, Damaged, Version}

-- Nothing is pending in the files that the list names.
abbrev pub AreDurable : Past → Listing → Type 0
AreDurable past list = AllByRecursion (λ entry. IsDurable past entry.file) list.entries

-- Nothing is pending in the files that the live list names.
abbrev pub AreListedDurable : Past → Type 0
AreListedDurable past = (list : Listing) → found_in (content past) ≡ Some (Some list) → AreDurable past list

-- Since `old` files were synced and read, and nothing else: a crash leaves of each file what it could leave then, or
-- what a read gave then.
pub record IsOnlySynced (old past : Past) : Type 0 where
  pub left : (file : ℕ) (bytes : List ℕ) → MayLeave past file bytes
      → MayLeave old file bytes ⊎ (bytes ≡ content old file)
  pub read : (file : ℕ) → content past file ≡ content old file

-- the vault after the call, in the store or beside the fault
abbrev pub vault_after : {V : Type 0} → Result (StoreState V) (ReopenFault × V) → V
vault_after (Ok store) = store.vault
vault_after (Err refused) = refused.1

-- The numbers of the store are those of the live list. Without one there are no batches, and files from 2 on are free.
abbrev pub HasNumbersOf : {V : Type 0} → Option (Option Listing) → StoreState V → Type 0
HasNumbersOf None store = ⊥
HasNumbersOf (Some None) store = (store.generation ≡ 0) × (store.next_file ≡ 2)
HasNumbersOf (Some (Some list)) store = (store.generation ≡ list.generation) × (store.next_file ≡ list.next_file)

-- The numbers of the store are those of the image's live list.
abbrev pub HasNumbersIn : {V : Type 0} → Image → StoreState V → Type 0
HasNumbersIn image store = HasNumbersOf (found_in image) store

-- The fault says nothing of the contents.
abbrev pub IsOutside : ReopenFault → Type 0
IsOutside fault = (fault ≡ VaultFault) ⊎ (fault ≡ Memory)

-- ---- the parts of a list

-- the rows of a part
abbrev pub Rows : Type 0
Rows = List Numbered

-- the rows of each part
abbrev pub RowLists : Type 0
RowLists = List Rows

-- parts with their days and files
abbrev pub Parts : Type 0
Parts = List Listed

-- the parts of these rows, with the days and the files of the entries
abbrev pub listed_with : List Entry → List (List Numbered) → List Listed
listed_with [] rows = []
listed_with (entry ∷ entries) [] = []
listed_with (entry ∷ entries) (part ∷ rows) =
    record { day = entry.day; file = entry.file; rows = part } ∷ listed_with entries rows

-- The part is as long as the entry says, and lies in its day.
pub record IsPartOf (entry : Entry) (part : List Numbered) : Type 0 where
  pub size : Fills entry.bytes part
  pub day : LieInDay entry.day part

-- The file of the entry is this part.
abbrev pub IsStoredAt : Image → Entry → List Numbered → Type 0
IsStoredAt image entry part = IsStoredPart entry.day entry.bytes part (image entry.file)

-- ---- faults

-- The fault is that of the file of the entry. Only `Damaged` and `Version` say something of it.
abbrev pub IsEntryFault : ReopenFault → Entry → Image → Type 0
IsEntryFault VaultFault entry image = ⊤
IsEntryFault Memory entry image = ⊤
IsEntryFault (Damaged file at) entry image =
    (file ≡ entry.file) × IsFileFault (file_faults.Damaged at) entry.day entry.bytes (image entry.file)
IsEntryFault (Version file found) entry image =
    (file ≡ entry.file) × IsFileFault (file_faults.Version found) entry.day entry.bytes (image entry.file)

-- The fault is that of the first entry of which the file is no part.
abbrev pub IsFirstFault : ReopenFault → List Entry → Image → Type 0
IsFirstFault fault [] image = ⊥
IsFirstFault fault (entry ∷ entries) image =
    IsEntryFault fault entry image
    ⊎ ((part : List Numbered) × IsStoredAt image entry part × IsFirstFault fault entries image)

-- The fault is that of the first slot that is open and has no list.
abbrev pub IsSlotFault : ReopenFault → Image → Type 0
IsSlotFault VaultFault image = ⊤
IsSlotFault Memory image = ⊤
IsSlotFault (Damaged file at) image = list_reading.IsFaultOf (list_faults.Damaged file at) image
IsSlotFault (Version file found) image = list_reading.IsFaultOf (list_faults.Version file found) image

-- Each file is a part, and together they do not hold whole batches: the list is damaged at its front, which stands at
-- 17, after the gate, the magic, the version and the generation.
pub record HasOtherFront (fault : ReopenFault) (list : Listing) (image : Image) : Type 0 where
  pub parts : List Listed
  pub each : AllZip (HasPart image) list.entries parts
  pub other : HoldBatches list.front (map (λ part. part.rows) parts) → ⊥
  pub place : fault ≡ Damaged (list.generation % 2) 17

-- The fault is that of the parts of the list.
abbrev pub IsPartsFault : ReopenFault → Listing → Image → Type 0
IsPartsFault fault list image =
    (fault ≡ Memory) ⊎ IsFirstFault fault list.entries image ⊎ HasOtherFront fault list image

-- Why a store was not reopened. The slots come first, then the files in the list's order, then the parts together.
abbrev pub IsReopenFault : ReopenFault → Image → Type 0
IsReopenFault fault image =
    IsSlotFault fault image
    ⊎ ((list : Listing) × (found_in image ≡ Some (Some list)) × IsPartsFault fault list image)

-- ---- the faults of the calls below

-- the fault of a list, as that of a store
abbrev pub as_reopen_fault : ListFault → ReopenFault
as_reopen_fault list_faults.VaultFault = VaultFault
as_reopen_fault list_faults.Memory = Memory
as_reopen_fault (list_faults.Damaged slot at) = Damaged slot at
as_reopen_fault (list_faults.Version slot found) = Version slot found

-- the fault of a file, as that of a store
abbrev pub file_reopen_fault : ℕ → FileFault → ReopenFault
file_reopen_fault file file_faults.VaultFault = VaultFault
file_reopen_fault file file_faults.Memory = Memory
file_reopen_fault file (file_faults.Damaged at) = Damaged file at
file_reopen_fault file (file_faults.Version found) = Version file found
