-- What an image finds, and what a store has on its vault.
use Rattle.std.specs.Prelude.{◌≡◌, ◌⊎◌, ℕ, ◌<◌, ◌≤◌, ◌^◌, List, [], length, map, Option, Some, None}
use Rattle.std.specs.List.{AllByRecursion, AllZip}
use Rattle.log_model.specs.Batches.{AreOf}
use Rattle.log_model.specs.Row.{Batch}
use Rattle.day_model.specs.Days.{DayRows, LieInDay}
use Rattle.vl_vault.specs.Disk.{Past, Image, content}
use Rattle.vl_vault.specs.Moments.{IsDurable}
use Rattle.part_file.specs.Format.{part_bytes, part_writing}
use Rattle.parts_list.specs.declared.list.Entry.{Entry}
use Rattle.parts_list.specs.declared.list.List.{List as Listing}
use Rattle.parts_list.specs.Slots.{found_in}
use Rattle.parts_list.specs.Writing.{AreSlotsDurable}
use Rattle.part_store.specs.State.{Listed, StoreState, AreStored, ArePartsAfter}

-- The file of the entry has the stated length, and is a part of these rows, which lie in its day.
pub record HasPart (image : Image) (entry : Entry) (part : Listed) : Type 0 where
  pub day : entry.day ≡ part.day
  pub file : entry.file ≡ part.file
  pub bytes : entry.bytes ≡ length (image part.file)
  pub spelling : part_writing part.rows ≡ Some (image part.file)
  pub in_day : LieInDay part.day part.rows

-- The image's live list has this front, and its entries are these parts, one by one. Without a list there are none.
abbrev pub FindsParts : ℕ → List Listed → Image → Type 0
FindsParts front parts image =
    ((found_in image ≡ Some None) × (front ≡ 0) × (parts ≡ []))
    ⊎ ((list : Listing) × (found_in image ≡ Some (Some list)) × (list.front ≡ front)
    × AllZip (HasPart image) list.entries parts)

-- Together the parts hold the rows of exactly these batches.
abbrev pub AreRowsOf : List Listed → List Batch → Type 0
AreRowsOf parts batches = AreOf (λ part. part.rows) parts batches

-- The parts that the image finds hold the rows of exactly these batches.
abbrev pub Finds : List Batch → Image → Type 0
Finds batches image = (parts : List Listed) × FindsParts (length batches) parts image × AreRowsOf parts batches

-- The image finds the parts from before, or these.
abbrev pub FindsOldOr : ℕ → List Listed → ℕ → List Listed → Image → Type 0
FindsOldOr old_front old front parts image = FindsParts old_front old image ⊎ FindsParts front parts image

-- The image finds the parts from before, or those with the new ones in place of the old.
abbrev pub FindsOldOrNew : {V : Type 0} → List ℕ → List DayRows → ℕ → StoreState V → Image → Type 0
FindsOldOrNew old new front before image =
    FindsParts before.front before.parts image
    ⊎ ((parts : List Listed) × ArePartsAfter old new before parts × FindsParts front parts image)

-- each batch has a row
abbrev pub HaveRows : List Batch → Type 0
HaveRows batches = AllByRecursion (λ batch. 0 < length batch) batches

-- The store holds exactly these batches.
pub record HoldsWhole {V : Type 0} (store : StoreState V) (batches : List Batch) : Type 0 where
  pub whole : length batches ≡ store.front
  pub are : AreRowsOf store.parts batches
  pub rows : HaveRows batches

-- The store holds batches from the first one on, each of them whole.
abbrev pub HoldsBatches : {V : Type 0} → StoreState V → Type 0
HoldsBatches store = (batches : List Batch) × HoldsWhole store batches

-- The image finds batches, each of which has a row.
abbrev pub FindsBatches : Image → Type 0
FindsBatches image = (batches : List Batch) × Finds batches image × HaveRows batches

-- the entry of a part
abbrev pub entry_of : Listed → Entry
entry_of part = record { day = part.day; file = part.file; bytes = length (part_bytes part.rows) }

-- The live list is this one, or there is none where none was written.
abbrev pub HasList : Listing → Past → Type 0
HasList list past =
    ((list.generation ≡ 0) × (found_in (content past) ≡ Some None))
    ⊎ ((0 < list.generation) × (found_in (content past) ≡ Some (Some list)))

-- The file of the part has its bytes, and nothing of it is pending.
abbrev pub HasFile : Past → Listed → Type 0
HasFile past part = IsDurable past part.file × (content past part.file ≡ part_bytes part.rows)

-- The vault has the list and the files of its parts, and nothing of them is pending.
pub record IsOnVault (list : Listing) (parts : List Listed) (past : Past) : Type 0 where
  pub slots : AreSlotsDurable past
  pub live : HasList list past
  pub files : AllByRecursion (HasFile past) parts

-- The part has a spelling, of which the length can be written, and so can its day.
pub record CanBeWritten (part : Listed) : Type 0 where
  pub spelling : part_writing part.rows ≡ Some (part_bytes part.rows)
  pub size : length (part_bytes part.rows) < 2 ^ 64
  pub day : part.day < 2 ^ 32

-- The parts and their list keep the rules. A list of generation 0 says that there is none.
pub record IsCatalog (list : Listing) (parts : List Listed) : Type 0 where
  pub generation : list.generation < 2 ^ 63
  pub front : list.front < 2 ^ 63
  pub next_file : (2 ≤ list.next_file) × (list.next_file < 2 ^ 63)
  pub few : length parts < 2 ^ 32
  pub entries : list.entries ≡ map entry_of parts
  pub fresh : list.generation ≡ 0 → (list.front ≡ 0) × (parts ≡ []) × (list.next_file ≡ 2)
  pub stored : AreStored list.next_file parts
  pub written : AllByRecursion CanBeWritten parts

-- What a store keeps. Where it has not halted, its parts are on the vault.
pub record IsStore (told : Type 0) (past : Past) (list : Listing) (parts : List Listed)
    (halted : Option ℕ) : Type 0 where
  pub catalog : IsCatalog list parts
  pub vault : told → halted ≡ None → IsOnVault list parts past
