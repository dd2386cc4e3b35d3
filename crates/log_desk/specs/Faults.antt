-- When a batch is not inserted.
use Rattle.std.specs.Prelude.{◌≡◌, ℕ, ◌+◌, ◌-◌, ◌^◌, ◌<◌, List, codes, decimal, ◌++◌}
use Rattle.log_model.specs.Core.{held_limit}
use Rattle.log_core.specs.declared.fault.CommitFault.{CommitFault}
use Rattle.log_core.specs.declared.fault.CommitFault.TheVariants as commits
use Rattle.part_store.specs.declared.fault.StoreFault.{StoreFault}
use Rattle.part_store.specs.declared.fault.StoreFault.TheVariants as stores
use Rattle.log_desk.specs.declared.fault.InsertFault.{InsertFault}
use Rattle.log_desk.specs.declared.fault.InsertFault.TheVariants.{Full, Spent, Memory}
use Rattle.log_desk.specs.declared.fault.KeepFault.{KeepFault}
use Rattle.log_desk.specs.declared.fault.KeepFault.TheVariants as keeps

-- what a fault of the shelf is to a caller of the desk
abbrev pub fault_of : CommitFault → InsertFault
fault_of (commits.Full held) = Full held
fault_of commits.Spent = Spent
fault_of commits.Memory = Memory

-- Of this many batches, of which this many are settled, as many wait to be settled as may.
abbrev pub IsFull : ℕ → ℕ → Type 0
IsFull count settled = count ≡ settled + held_limit

-- the last number that a batch may have
abbrev pub last_number : ℕ
last_number = 2 ^ 63 - 1

-- one more may be inserted
abbrev pub HasRoom : ℕ → ℕ → Type 0
HasRoom count settled = (count < settled + held_limit) × (count < last_number)

-- Why one more batch is not inserted: the first of these that applies. `Memory` may always be returned.
abbrev pub Refuses : ℕ → ℕ → InsertFault → Type 0
Refuses count settled (Full held) = IsFull count settled × (held ≡ held_limit)
Refuses count settled Spent = (IsFull count settled → ⊥) × (count ≡ last_number)
Refuses count settled Memory = Unit {0}

-- how a fault prints
abbrev pub fault_text : InsertFault → List ℕ
fault_text (Full held) = codes "full " ++ decimal held
fault_text Spent = codes "spent"
fault_text Memory = codes "no memory"

-- what a fault of the store is to a keeper
abbrev pub keep_fault_of : StoreFault → KeepFault
keep_fault_of (stores.Halted fault) = keeps.Halted fault
keep_fault_of stores.Spent = keeps.Spent
keep_fault_of stores.VaultFault = keeps.VaultFault
keep_fault_of stores.Memory = keeps.Memory

abbrev pub keep_fault_text : KeepFault → List ℕ
keep_fault_text (keeps.Halted fault) = codes "halted " ++ decimal fault
keep_fault_text keeps.Spent = codes "spent"
keep_fault_text keeps.VaultFault = codes "vault failed"
keep_fault_text keeps.Memory = codes "no memory"
