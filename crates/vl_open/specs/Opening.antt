-- What the opened store of a vault holds, and what is said where there is none.
use Rattle.std.specs.Prelude.{◌≡◌, ◌⊎◌, ℕ, List, [], ◌∷◌, ◌++◌, Result, Ok, Err, codes, decimal}
use Rattle.log_model.specs.Row.{Batch}
use Rattle.vl_io.specs.Change.{Change, IsTold}
use Rattle.vl_io.specs.Faults.{Rose}
use Rattle.vl_vault.specs.Disk.{Past, IsCrashImage}
use Rattle.vl_vault.specs.Disk as disk
use Rattle.vl_vault.specs.Moments.{EachImage}
use Rattle.part_store.specs.State.{StoreState}
use Rattle.part_store.specs.Finds.{Finds, FindsBatches, FindsParts, HaveRows, HoldsWhole}
use Rattle.part_store.specs.Reopening.{IsOutside, IsReopenFault}
use Rattle.part_store.specs.declared.fault.ReopenFault.{ReopenFault}
use Rattle.part_store.specs.declared.fault.ReopenFault.TheVariants as faults
use Rattle.vl_status.specs.Status.{no_memory_text}
use Rattle.vl_status.specs.declared.status.Status.{Status}
use Rattle.vl_status.specs.declared.status.Status.TheVariants as statuses

-- the vault after the call, in the store or beside the status
abbrev pub opened_vault : {V : Type 0} → Result (StoreState V) (Status × V) → V
opened_vault (Ok store) = store.vault
opened_vault (Err refused) = refused.1

-- What a read gives of the files now, a crash may leave of them. So it is where each event is that of a call, in a new
-- vault, and where nothing is pending.
abbrev pub LeavesContent : Past → Type 0
LeavesContent past = IsCrashImage past (disk.content past)

-- The store holds what the vault's content finds.
pub record HoldsFound {V : Type 0} (past : Past) (store : StoreState V) : Type 0 where
  pub content : FindsParts store.front store.parts (disk.content past)
  -- the batches that the content finds
  pub each : (held : List Batch) → HaveRows held → Finds held (disk.content past) → HoldsWhole store held
  -- the batches that each image finds which a crash may leave
  pub images : LeavesContent past
      → (held : List Batch) → HaveRows held → EachImage (Finds held) past → HoldsWhole store held

-- ---- texts

-- the line where the vault failed
abbrev pub vault_fault_text : List ℕ
vault_fault_text = codes "vault fault" ++ 10 ∷ []

-- the line where the vault's content is no store; the other faults have lines of their own
abbrev pub reopen_fault_text : ReopenFault → List ℕ
reopen_fault_text faults.VaultFault = []
reopen_fault_text faults.Memory = []
reopen_fault_text (faults.Damaged file at) =
    codes "damaged file " ++ (decimal file ++ (codes " at " ++ (decimal at ++ 10 ∷ [])))
reopen_fault_text (faults.Version file found) =
    codes "version " ++ (decimal found ++ (codes " in file " ++ (decimal file ++ 10 ∷ [])))

-- What is said, by the status. Where the content is no store, it finds no batches, and the line names the fault.
abbrev pub TellsReopening : Type 0 → Past → ℕ → ℕ → Change → Status → Type 0
TellsReopening told past faults_old faults_new errors statuses.VaultFault =
    Rose faults_old faults_new × IsTold errors [] vault_fault_text
TellsReopening told past faults_old faults_new errors statuses.Damaged =
    (told → FindsBatches (disk.content past) → ⊥)
    × (fault : ReopenFault) × (IsOutside fault → ⊥) × (told → IsReopenFault fault (disk.content past))
    × IsTold errors [] (reopen_fault_text fault)
TellsReopening told past faults_old faults_new errors statuses.NoMemory = IsTold errors [] no_memory_text
TellsReopening told past faults_old faults_new errors statuses.Done = ⊥
TellsReopening told past faults_old faults_new errors statuses.QueryRefused = ⊥
TellsReopening told past faults_old faults_new errors statuses.Usage = ⊥
TellsReopening told past faults_old faults_new errors statuses.ReadFault = ⊥
TellsReopening told past faults_old faults_new errors statuses.WriteFault = ⊥
TellsReopening told past faults_old faults_new errors statuses.DoorFault = ⊥
TellsReopening told past faults_old faults_new errors statuses.Limit = ⊥

-- ---- reports

-- The text, or that memory ran out for it.
abbrev pub ReportsText : Change → List ℕ → Status → Type 0
ReportsText errors text status =
    ((status ≡ statuses.Damaged) × IsTold errors [] text)
    ⊎ ((status ≡ statuses.NoMemory) × IsTold errors [] no_memory_text)

-- What is said of the fault, and the status.
abbrev pub ReportsFault : Change → ReopenFault → Status → Type 0
ReportsFault errors faults.VaultFault status = (status ≡ statuses.VaultFault) × IsTold errors [] vault_fault_text
ReportsFault errors faults.Memory status = (status ≡ statuses.NoMemory) × IsTold errors [] no_memory_text
ReportsFault errors (faults.Damaged file at) status =
    ReportsText errors (reopen_fault_text (faults.Damaged file at)) status
ReportsFault errors (faults.Version file found) status =
    ReportsText errors (reopen_fault_text (faults.Version file found)) status
