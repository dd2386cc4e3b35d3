-- The fault of a reader of bytes, as that of a part.
use Rattle.std.proofs.Common.{◌≡◌, ℕ, List, Result, Ok, Err, length, drop, sym, ◌∙◌}
use Rattle.std.specs.Prelude.{Some}
use Rattle.byte_format.specs.Answers.{FaultOf as ReadFaultOf, IsPlaceOf as IsReadPlaceOf}
use Rattle.byte_format.specs.Format.{whole}
use Rattle.byte_format.specs.declared.fault.Fault.{Fault}
use Rattle.byte_format.specs.declared.fault.Fault.TheVariants as read_faults
use Rattle.log_model.specs.History.{Numbered}
use Rattle.part_file.specs.Again.{is_read_again}
use Rattle.part_file.specs.Format.{part, part_writing}
use Rattle.part_file.specs.Version.{HasOtherVersion}
use Rattle.part_file.proofs.VersionLaws.{other-version}
use Rattle.part_file.specs.Answers.{FaultOf, IsFaultOf, part_fault}

pub fault-as : {Y : Type 0} (fault : Fault) (bytes : List ℕ) (read : Result Y ℕ) → ReadFaultOf fault bytes read
    → FaultOf (part_fault fault) bytes read
fault-as (read_faults.Damaged at) bytes read h = h
fault-as read_faults.Memory bytes read h = tt

pub place-as : (fault : Fault) (bytes : List ℕ) → ((version : ℕ) → HasOtherVersion bytes version → ⊥)
    → IsReadPlaceOf fault part part_writing bytes → IsFaultOf (part_fault fault) bytes
place-as (read_faults.Damaged at) bytes none h = (none, h)
place-as read_faults.Memory bytes none h = tt

-- a part that is written has no other version
pub never-other : (bytes : List ℕ) (version : ℕ) (rows : List Numbered) → HasOtherVersion bytes version
    → part_writing rows ≡ Some bytes → ⊥
never-other bytes version rows h e =
    let read : whole part bytes ≡ Ok rows = is_read_again rows bytes e in
    let none : whole part bytes ≡ Err (length (drop 6 bytes)) = other-version bytes version h in
    let same : Ok rows ≡ Err (length (drop 6 bytes)) = sym read ∙ none in
    cc

pub one-version : (bytes : List ℕ) (a b : ℕ) → HasOtherVersion bytes a → HasOtherVersion bytes b → b ≡ a
one-version bytes a b h k = sym k.0.2 ∙ h.0.2
