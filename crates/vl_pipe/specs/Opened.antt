-- A desk of the store of a vault.
use Rattle.std.specs.Prelude.{◌≡◌, List, None, Result, Ok, Err}
use Rattle.log_model.specs.History.{batches_in}
use Rattle.log_model.specs.Row.{Batch}
use Rattle.vl_vault.specs.Disk.{Past, content}
use Rattle.part_store.specs.Finds.{Finds, HaveRows, HoldsWhole}
use Rattle.part_store.specs.State.{StoreState}
use Rattle.lone_desk.specs.Kept.{MayKeepAlone}
use Rattle.lone_desk.specs.Seen.{Seen}
use Rattle.vl_status.specs.declared.status.Status.{Status}

-- The vault had these batches: its content finds them.
pub record IsOpened (told : Type 0) (before : Past) (batches : List Batch) : Type 0 where
  pub rows : HaveRows batches
  pub found : told → Finds batches (content before)

-- The desk has the batches of the store, all of them settled, and a round may begin.
pub record IsOpenDesk {V : Type 0} (store : StoreState V) (seen : Seen) : Type 0 where
  pub keeps : MayKeepAlone store seen
  pub on : store.halted ≡ None
  pub whole : HoldsWhole store (batches_in seen.history)
  pub settled : seen.settled ≡ store.front

-- the vault after the call, in the keeper's store or beside the status
abbrev pub vault_of : {V : Type 0} → Result (Seen × StoreState V) (Status × V) → V
vault_of (Ok opened) = opened.1.vault
vault_of (Err refused) = refused.1
