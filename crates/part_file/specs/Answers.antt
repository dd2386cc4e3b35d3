-- What reading a part answers.
use Rattle.std.specs.Prelude.{◌≡◌, ℕ, ◌+◌, List, length, Result, Ok, Err}
use Rattle.byte_format.specs.Spelling.{IsDamagedAt}
use Rattle.byte_format.specs.declared.fault.Fault.{Fault}
use Rattle.byte_format.specs.declared.fault.Fault.TheVariants as read_faults
use Rattle.part_file.specs.Format.{part, part_writing}
use Rattle.part_file.specs.Version.{HasOtherVersion}
use Rattle.part_file.specs.declared.fault.PartFault.{PartFault}
use Rattle.part_file.specs.declared.fault.PartFault.TheVariants as faults

-- What a fault says of reading. The place and the bytes that are left from it on make up the bytes.
abbrev pub FaultOf : {Y : Type 0} → PartFault → List ℕ → Result Y ℕ → Type 0
FaultOf (faults.Version found) bytes read = (left : ℕ) × (read ≡ Err left)
FaultOf (faults.Damaged at) bytes read = (left : ℕ) × (read ≡ Err left) × (at + left ≡ length bytes)
FaultOf faults.Memory bytes read = Unit {0}

abbrev pub AnswersAs : {Y : Type 0} → List ℕ → Result Y PartFault → Result Y ℕ → Type 0
AnswersAs bytes (Ok x) read = read ≡ Ok x
AnswersAs bytes (Err fault) read = FaultOf fault bytes read

-- The version is that of the part, or the place is that of the first damaged item of a part that has no other version.
abbrev pub IsFaultOf : PartFault → List ℕ → Type 0
IsFaultOf (faults.Version found) bytes = HasOtherVersion bytes found
IsFaultOf (faults.Damaged at) bytes =
    ((version : ℕ) → HasOtherVersion bytes version → ⊥) × IsDamagedAt part part_writing bytes at
IsFaultOf faults.Memory bytes = Unit {0}

-- The fault of a reader of bytes, as that of a part.
abbrev pub part_fault : Fault → PartFault
part_fault (read_faults.Damaged at) = faults.Damaged at
part_fault read_faults.Memory = faults.Memory
