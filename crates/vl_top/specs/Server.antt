-- How a server ends.
use Rattle.std.specs.Prelude.{◌≡◌, ℕ, zero, suc, ◌++◌, ◌∷◌, List, [], codes, Bool, true, false, Option, None, Some}
use Rattle.std.specs.List.{AllByRecursion}
use Rattle.vl_io.specs.Change.{Change, IsTold, IsUntold}
use Rattle.vl_io.specs.Visits.{HasNoVisit}
use Rattle.log_desk.specs.declared.fault.KeepFault.{KeepFault}
use Rattle.log_desk.specs.declared.fault.KeepFault.TheVariants as keeps
use Rattle.vl_status.specs.Status.{no_memory_text}
use Rattle.vl_status.specs.declared.status.Status.{Status}
use Rattle.vl_status.specs.declared.status.Status.TheVariants as statuses
use Rattle.vl_open.specs.Opening.{TellsReopening, vault_fault_text}
use Rattle.vl_pipe.specs.VaultChange.{VaultChange}
use Rattle.vl_top.specs.Vault.{HasFailedVault}
use Rattle.vl_serve.specs.Doors.{DoorChange, IsFailed, IsOver}
use Rattle.vl_serve.specs.declared.serving.ServeEnd.{ServeEnd}

abbrev pub door_fault_text : List ℕ
door_fault_text = codes "door fault" ++ 10 ∷ []

abbrev pub spent_text : List ℕ
spent_text = codes "spent" ++ 10 ∷ []

-- Each door gave all its visits.
abbrev pub AreDone : List DoorChange → Type 0
AreDone doors = AllByRecursion (λ door. HasNoVisit door.left) doors

-- One of the doors failed.
pub record HasFailedDoor (doors : List DoorChange) : Type 0 where
  pub before : List DoorChange
  pub door : DoorChange
  pub behind : List DoorChange
  pub are : doors ≡ before ++ door ∷ behind
  pub failed : IsFailed door

-- ---- the status

-- the status of doors of which this many failed
abbrev pub doors_status : ℕ → Status
doors_status zero = statuses.Done
doors_status (suc more) = statuses.DoorFault

-- The first that applies: out of memory, a round that was refused, a door that failed.
abbrev pub first_status : Bool → Option KeepFault → ℕ → Status
first_status true kept door_faults = statuses.NoMemory
first_status false None door_faults = doors_status door_faults
first_status false (Some (keeps.Halted fault)) door_faults = statuses.VaultFault
first_status false (Some keeps.Spent) door_faults = statuses.Limit
first_status false (Some keeps.VaultFault) door_faults = statuses.VaultFault
first_status false (Some keeps.Memory) door_faults = statuses.NoMemory

abbrev pub end_status : ServeEnd → Status
end_status end = first_status end.memory end.kept end.door_faults

-- the error text of a server that ended, by its status
abbrev pub TellsEnd : Change → Status → Type 0
TellsEnd errors statuses.Done = IsUntold errors
TellsEnd errors statuses.VaultFault = IsTold errors [] vault_fault_text
TellsEnd errors statuses.DoorFault = IsTold errors [] door_fault_text
TellsEnd errors statuses.Limit = IsTold errors [] spent_text
TellsEnd errors statuses.NoMemory = IsTold errors [] no_memory_text
TellsEnd errors status = ⊥

-- ---- how a server ends

-- How a server ends. Where memory runs out that is the status, whatever the outcome of the doors.
abbrev pub EndsServer : Type 0 → Change → VaultChange → List DoorChange → Status → Type 0
EndsServer told errors vault doors statuses.Done = AreDone doors × IsUntold errors
EndsServer told errors vault doors statuses.VaultFault = HasFailedVault vault × IsTold errors [] vault_fault_text
EndsServer told errors vault doors statuses.Damaged =
    TellsReopening told vault.before vault.faults_before vault.faults_after errors statuses.Damaged
EndsServer told errors vault doors statuses.DoorFault =
    HasFailedDoor doors × AllByRecursion IsOver doors × IsTold errors [] door_fault_text
EndsServer told errors vault doors statuses.Limit = IsTold errors [] spent_text
EndsServer told errors vault doors statuses.NoMemory = IsTold errors [] no_memory_text
EndsServer told errors vault doors status = ⊥
