-- What reading a block answers.
use Rattle.std.specs.Prelude.{◌≡◌, ℕ, ◌+◌, List, length, Option, Result, Ok, Err}
use Rattle.byte_format.specs.Format.{Format}
use Rattle.byte_format.specs.Spelling.{IsDamagedAt}
use Rattle.column_block.specs.declared.fault.BlockFault.{BlockFault}
use Rattle.column_block.specs.declared.fault.BlockFault.TheVariants as faults
use Rattle.byte_format.specs.declared.fault.Fault.{Fault}
use Rattle.byte_format.specs.declared.fault.Fault.TheVariants as read_faults

-- The place and the bytes that are left from it on make up the bytes.
abbrev pub FaultOf : {Y : Type 0} → BlockFault → List ℕ → Result Y ℕ → Type 0
FaultOf faults.Memory bytes read = Unit {0}
FaultOf (faults.Damaged at) bytes read = (left : ℕ) × (read ≡ Err left) × (at + left ≡ length bytes)

abbrev pub AnswersAs : {Y : Type 0} → List ℕ → Result Y BlockFault → Result Y ℕ → Type 0
AnswersAs bytes (Ok x) read = read ≡ Ok x
AnswersAs bytes (Err fault) read = FaultOf fault bytes read

-- The place is that of the first damaged item.
abbrev pub IsPlaceOf : {A : Type 0} → BlockFault → Format A → (A → Option (List ℕ)) → List ℕ → Type 0
IsPlaceOf faults.Memory format writing bytes = Unit {0}
IsPlaceOf (faults.Damaged at) format writing bytes = IsDamagedAt format writing bytes at

-- The fault of a reader of bytes, as that of a block.
abbrev pub block_fault : Fault → BlockFault
block_fault (read_faults.Damaged at) = faults.Damaged at
block_fault read_faults.Memory = faults.Memory
