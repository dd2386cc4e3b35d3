-- What writing the batches of a look does to a store.
use Rattle.std.specs.Prelude.{◌≡◌, ℕ, ◌<◌, List, drop, length, None, Result, IfErr, OnErr, OnOk}
use Rattle.log_model.specs.History.{Numbered}
use Rattle.log_model.specs.Row.{Batch}
use Rattle.day_model.specs.Days.{AreOfTheirDays, DayRows}
use Rattle.vl_vault.specs.Disk.{Past}
use Rattle.vl_vault.specs.Moments.{Always, EachImage}
use Rattle.part_store.specs.State.{Listed, StoreState}
use Rattle.merge_plan.specs.Planned.{AreListed, JoinsDays, KeepsRows}
use Rattle.log_desk.specs.Keeping.{EndsRound, FindsFirst, HoldsFront, IsMerged}
use Rattle.log_desk.specs.declared.fault.KeepFault.{KeepFault}

-- What a plan says of the parts of a store, where these parts come later.
pub record IsPlanOf (stored : List Listed) (later : List (List Numbered)) (files : List ℕ) (parts : List DayRows)
    : Type 0 where
  pub rows : KeepsRows stored later files parts
  pub days : AreOfTheirDays parts
  pub listed : AreListed stored files
  pub joins : JoinsDays stored later files parts

-- All of these batches were written.
pub record AreWritten {V : Type 0} (batches : List Batch) (old new : StoreState V) : Type 0 where
  pub front : new.front ≡ length batches
  pub on : new.halted ≡ None
  pub merged : old.front < length batches → IsMerged (drop old.front batches) old new

-- The store holds all of these batches then, or those from before.
pub record IsWrittenOut {V : Type 0} (told : Type 0) (past : V → Past) (faults : V → ℕ) (batches : List Batch)
    (old new : StoreState V) (result : Result (Unit {0}) KeepFault) : Type 0 where
  pub holds : HoldsFront new batches
  pub ok : OnOk result (AreWritten batches old new)
  pub err : OnErr result (new.front ≡ old.front)
  pub fault : IfErr result (EndsRound faults (drop old.front batches) old new)
  pub moments : told
      → Always (EachImage (FindsFirst old.front (length batches) batches)) (past old.vault) (past new.vault)
