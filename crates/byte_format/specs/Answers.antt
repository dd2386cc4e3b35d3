-- What a reader of all bytes returns.
use Rattle.std.specs.Prelude.{◌≡◌, ℕ, ◌+◌, List, length, Option, Result, Ok, Err}
use Rattle.byte_format.specs.Format.{Format}
use Rattle.byte_format.specs.Spelling.{IsDamagedAt}
use Rattle.byte_format.specs.declared.fault.Fault.{Fault}
use Rattle.byte_format.specs.declared.fault.Fault.TheVariants as faults

-- The place and the bytes that are left from it on make up the bytes.
abbrev pub FaultOf : {Y : Type 0} → Fault → List ℕ → Result Y ℕ → Type 0
FaultOf faults.Memory bytes read = Unit {0}
FaultOf (faults.Damaged at) bytes read = (left : ℕ) × (read ≡ Err left) × (at + left ≡ length bytes)

-- Seen by view the result is what reading gives, or there was no memory.
abbrev pub AnswersAs : {X Y : Type 0} → (X → Y) → List ℕ → Result X Fault → Result Y ℕ → Type 0
AnswersAs view bytes (Ok x) read = read ≡ Ok (view x)
AnswersAs view bytes (Err fault) read = FaultOf fault bytes read

-- The place is that of the first damaged item.
abbrev pub IsPlaceOf : {A : Type 0} → Fault → Format A → (A → Option (List ℕ)) → List ℕ → Type 0
IsPlaceOf faults.Memory format writing bytes = Unit {0}
IsPlaceOf (faults.Damaged at) format writing bytes = IsDamagedAt format writing bytes at
