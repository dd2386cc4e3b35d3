-- What a lone desk keeps in a store, and what a round of its keeper does.
use Rattle.std.specs.Prelude.{◌≡◌, ◌⊎◌, ℕ, ◌≤◌, List, length, drop, None, Result, IfErr, IfOk}
use Rattle.log_model.specs.History.{batches_in}
use Rattle.log_model.specs.Row.{Batch}
use Rattle.vl_vault.specs.Disk.{Past}
use Rattle.vl_vault.specs.Moments.{Always, EachImage}
use Rattle.part_store.specs.State.{StoreState}
use Rattle.part_store.specs.Finds.{Finds}
use Rattle.log_desk.specs.Keeping.{EndsRound, FindsFirst, HoldsFront}
use Rattle.log_desk.specs.Seen.{Seen}
use Rattle.log_desk.specs.declared.fault.KeepFault.{KeepFault}

-- A round may begin. The store holds the first of the batches, and no more are settled than it holds.
pub record MayKeepAlone {V : Type 0} (store : StoreState V) (seen : Seen) : Type 0 where
  pub holds : HoldsFront store (batches_in seen.history)
  pub settled : seen.settled ≤ store.front

-- A round of a desk of these batches, and how many are settled after it.
pub record RoundsAlone {V : Type 0} (told : Type 0) (past : V → Past) (faults : V → ℕ) (batches : List Batch)
    (old new : StoreState V) (settled : ℕ) (result : Result ℕ KeepFault) : Type 0 where
  pub goes_on : old.front ≤ length batches
  -- Without new batches no call is made on the vault.
  pub quiet : length batches ≡ old.front → new ≡ old
  pub front : (new.front ≡ old.front) ⊎ (new.front ≡ length batches)
  -- At every moment each image finds the batches from before, or all.
  pub moments : told → old.halted ≡ None
      → Always (EachImage (FindsFirst old.front (length batches) batches)) (past old.vault) (past new.vault)
  -- All are held and settled, and a crash finds them.
  pub ok : IfOk result (λ n. (n ≡ length batches) × (new.front ≡ n) × (settled ≡ n) × (new.halted ≡ None)
      × (told → EachImage (Finds batches) (past new.vault)))
  pub err : IfErr result (EndsRound faults (drop old.front batches) old new)
