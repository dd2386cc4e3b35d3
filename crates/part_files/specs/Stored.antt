-- What reading the part of an entry promises.
use Rattle.std.specs.Prelude.{◌≡◌, ◌≢◌, ◌⊎◌, ℕ, List, length, min, Some, ⊤}
use Rattle.log_model.specs.History.{Numbered}
use Rattle.day_model.specs.Days.{LieInDay}
use Rattle.part_file.specs.Answers as part_answers
use Rattle.part_file.specs.Format.{part_writing}
use Rattle.part_file.specs.declared.fault.PartFault.{PartFault}
use Rattle.part_file.specs.declared.fault.PartFault.TheVariants as part_faults
use Rattle.part_files.specs.declared.fault.FileFault.{FileFault}
use Rattle.part_files.specs.declared.fault.FileFault.TheVariants.{VaultFault, Damaged, Version, Memory}

-- The content is the spelling of this part. It is as long as stated, and all rows lie in the day.
pub record IsStoredPart (day bytes : ℕ) (part : List Numbered) (content : List ℕ) : Type 0 where
  pub spelling : part_writing part ≡ Some content
  pub size : length content ≡ bytes
  pub lies : LieInDay day part

-- The part has a spelling of so many bytes.
pub record Fills (bytes : ℕ) (part : List Numbered) : Type 0 where
  pub spelling : List ℕ
  pub written : part_writing part ≡ Some spelling
  pub size : length spelling ≡ bytes

-- The content is not as long as stated: it is damaged where the shorter of the two ends.
pub record HasOtherLength (bytes at : ℕ) (content : List ℕ) : Type 0 where
  pub other : length content ≢ bytes
  pub end : at ≡ min (length content) bytes

-- The content is as long as stated, and is no part of this version: it is damaged at its first damaged item.
pub record IsNoPart (bytes at : ℕ) (content : List ℕ) : Type 0 where
  pub size : length content ≡ bytes
  pub place : part_answers.IsFaultOf (part_faults.Damaged at) content

-- The content is a part with a row of another day: it is damaged at 0.
pub record HasOtherDay (day bytes at : ℕ) (content : List ℕ) : Type 0 where
  pub part : List Numbered
  pub spelling : part_writing part ≡ Some content
  pub size : length content ≡ bytes
  pub other : LieInDay day part → ⊥
  pub start : at ≡ 0

-- The content is as long as stated, and has another version.
pub record HasOtherVersion (bytes found : ℕ) (content : List ℕ) : Type 0 where
  pub size : length content ≡ bytes
  pub version : part_answers.IsFaultOf (part_faults.Version found) content

-- Why the part was not read. Only `Damaged` and `Version` say something of the content.
abbrev pub IsFileFault : FileFault → ℕ → ℕ → List ℕ → Type 0
IsFileFault VaultFault day bytes content = ⊤
IsFileFault Memory day bytes content = ⊤
IsFileFault (Damaged at) day bytes content =
    HasOtherLength bytes at content ⊎ (IsNoPart bytes at content ⊎ HasOtherDay day bytes at content)
IsFileFault (Version found) day bytes content = HasOtherVersion bytes found content

-- The fault says nothing of the content.
abbrev pub IsOutside : FileFault → Type 0
IsOutside fault = (fault ≡ VaultFault) ⊎ (fault ≡ Memory)

-- the fault of a part, as that of a file
abbrev pub as_file_fault : PartFault → FileFault
as_file_fault (part_faults.Version found) = Version found
as_file_fault (part_faults.Damaged at) = Damaged at
as_file_fault part_faults.Memory = Memory
