-- The vault of a command: that it failed, and what a crash leaves of it.
use Rattle.std.specs.Prelude.{List}
use Rattle.log_model.specs.Row.{Batch}
use Rattle.vl_io.specs.Faults.{Rose}
use Rattle.vl_vault.specs.Disk.{Image, content}
use Rattle.vl_vault.specs.Moments.{Always, EachImage}
use Rattle.part_store.specs.Finds.{Finds, FindsBatches, HaveRows}
use Rattle.vl_open.specs.Opening.{LeavesContent}
use Rattle.vl_pipe.specs.VaultChange.{VaultChange}

-- The vault failed.
abbrev pub HasFailedVault : VaultChange → Type 0
HasFailedVault vault = Rose vault.faults_before vault.faults_after

-- The vault has batches that can be read, and did not fail.
abbrev pub HasVault : Type 0 → VaultChange → Type 0
HasVault told vault = told × FindsBatches (content vault.before) × ¬ HasFailedVault vault

-- at every moment each image has this
abbrev pub AtEachMoment : VaultChange → (Image → Type 0) → Type 0
AtEachMoment vault P = Always (EachImage P) vault.before vault.after

-- Before the run a crash may leave what a read gives, and each image of a crash finds exactly these batches.
pub record HasBatches (vault : VaultChange) (held : List Batch) : Type 0 where
  pub leaves : LeavesContent vault.before
  pub rows : HaveRows held
  pub images : EachImage (Finds held) vault.before
