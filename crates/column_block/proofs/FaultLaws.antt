-- The fault of a reader of bytes, as that of a block.
use Rattle.std.proofs.Common.{◌≡◌, ℕ, List, Option, Result}
use Rattle.byte_format.specs.Answers.{FaultOf as ReadFaultOf, IsPlaceOf as IsReadPlaceOf}
use Rattle.byte_format.specs.Format.{Format}
use Rattle.byte_format.specs.declared.fault.Fault.{Fault}
use Rattle.byte_format.specs.declared.fault.Fault.TheVariants as read_faults
use Rattle.column_block.specs.Answers.{FaultOf, IsPlaceOf, block_fault}

pub fault-as : {Y : Type 0} (fault : Fault) (bytes : List ℕ) (read : Result Y ℕ) → ReadFaultOf fault bytes read
    → FaultOf (block_fault fault) bytes read
fault-as (read_faults.Damaged at) bytes read h = h
fault-as read_faults.Memory bytes read h = tt

pub place-as : {A : Type 0} (fault : Fault) (format : Format A) (writing : A → Option (List ℕ)) (bytes : List ℕ)
    → IsReadPlaceOf fault format writing bytes → IsPlaceOf (block_fault fault) format writing bytes
place-as (read_faults.Damaged at) format writing bytes h = h
place-as read_faults.Memory format writing bytes h = tt
