-- What a call of the desk does to a pass.
use Rattle.std.specs.Prelude.{◌≡◌, ◌⊎◌, ℕ, ◌+◌, ◌<◌, ◌≤◌, List, [], ◌∷◌, ◌++◌, length}
use Rattle.log_model.specs.Core.{held_limit}
use Rattle.log_model.specs.Row.{Batch}
use Rattle.turn_lock.specs.declared.view.Entry.{Entry}
use Rattle.turn_lock.specs.Entries.{AreStrangers, Continues, made, maker_of}
use Rattle.turn_lock.specs.Passes.{LeftTurn, LockId, PassState}
use Rattle.log_core.specs.Entries.{batch_of}
use Rattle.log_core.specs.declared.entries.EntryRows.{EntryRows}
use Rattle.log_desk.specs.Faults.{Refuses, last_number}
use Rattle.log_desk.specs.Seen.{caller_of}
use Rattle.log_desk.specs.declared.fault.InsertFault.{InsertFault}
use Rattle.log_desk.specs.declared.fault.InsertFault.TheVariants.{Memory}

-- The mark is not lower, and that of a pass that may settle is as before.
pub record KeepsMark (old new : PassState EntryRows) : Type 0 where
  pub rises : old.mark ≤ new.mark
  pub stays : 0 < old.may_settle → new.mark ≡ old.mark

-- What is seen begins with what was seen before. It goes on with entries of other callers, and its last entry is this
-- batch, row for row, which this pass made.
pub record Inserts (batch : Batch) (old new : PassState EntryRows) : Type 0 where
  pub others : List (Entry EntryRows)
  pub strangers : AreStrangers old.lock.passes old.numbers others
  pub rows : EntryRows
  pub is_batch : batch_of rows ≡ batch
  pub seen : new.seen ≡ old.seen ++ (others ++ made (maker_of old.numbers) rows ∷ [])

-- One turn was taken: the caller stays who it was, and has seen all that there was in that turn.
pub record TookTurn (old new : PassState EntryRows) : Type 0 where
  pub caller : caller_of new ≡ caller_of old
  pub turn : LeftTurn old new
  pub mark : KeepsMark old new

-- In one turn the pass looked: what it had seen goes on with entries of other callers only.
pub record Looked (lock : LockId) (old new : PassState EntryRows) : Type 0 where
  pub took : TookTurn old new
  pub adds : Continues lock.passes old.numbers old.seen new.seen

-- In one turn the pass inserted the batch, for which there was room, and got this number for it.
pub record Inserted (batch : Batch) (number : ℕ) (old new : PassState EntryRows) : Type 0 where
  pub took : TookTurn old new
  pub inserts : Inserts batch old new
  pub counted : length new.seen ≡ number
  pub few : number ≤ new.mark + held_limit
  pub numbered : number ≤ last_number

-- The pass looked in one turn, and there was this cause not to insert a batch. Or memory ran out before a turn.
abbrev pub IsRefused : LockId → InsertFault → PassState EntryRows → PassState EntryRows → Type 0
IsRefused lock fault old new =
    (Looked lock old new × Refuses (length new.seen) new.mark fault) ⊎ ((fault ≡ Memory) × (new ≡ old))
