-- What is kept while doors are served: what the rounds of a keeper do, one after another.
use Rattle.std.specs.Prelude.{◌≡◌, ℕ, ◌≤◌, ◌||◌, true, false, List, ◌++◌, length, take, drop, Option, None, Some, Result}
use Rattle.std.specs.Prelude.{Ok, Err, ⊤}
use Rattle.std.specs.Option.{option_or}
use Rattle.vl_io.specs.Faults.{Rose}
use Rattle.vl_vault.specs.Disk.{Past, Image}
use Rattle.vl_vault.specs.Moments.{Always, EachImage}
use Rattle.log_model.specs.Row.{Batch}
use Rattle.day_model.specs.Days.{DayRows}
use Rattle.part_store.specs.Finds.{Finds}
use Rattle.part_store.specs.State.{IsSpent, StoreState}
use Rattle.log_desk.specs.EntryRows.{EntryRows}
use Rattle.log_desk.specs.Keeping.{HoldsFront, IsMerge, batches_seen}
use Rattle.log_desk.specs.Passes.{PassState}
use Rattle.log_desk.specs.Seen.{seen_of}
use Rattle.log_desk.specs.declared.fault.KeepFault.{KeepFault}
use Rattle.log_desk.specs.declared.fault.KeepFault.TheVariants.{Halted, Spent, VaultFault, Memory}
use Rattle.vl_serve.specs.Doors.{GoesOn}
use Rattle.vl_serve.specs.declared.keep.Kept.{Kept}

-- The image finds these batches and then further ones.
abbrev pub FindsOnward : List Batch → Image → Type 0
FindsOnward held image = (later : List Batch) × Finds (held ++ later) image

-- Rounds of a keeper, and calls of others between them. The caller of the rounds keeps its numbers, and may settle as
-- before.
pub record IsKeeping {V : Type 0} (told : Type 0) (past : V → Past) (old new : StoreState V)
    (before after : PassState EntryRows) : Type 0 where
  pub numbers : after.numbers ≡ before.numbers
  pub may_settle : after.may_settle ≡ before.may_settle
  pub goes_on : GoesOn (seen_of before) (seen_of after)
  pub rises : old.front ≤ new.front
  -- A store that has halted stays as it is.
  pub halts : (n : ℕ) → old.halted ≡ Some n → new ≡ old
  -- At every moment each image finds the batches that the store held, and then further ones.
  pub moments : told → old.halted ≡ None
      → Always (EachImage (FindsOnward (take old.front (batches_seen before.seen)))) (past old.vault) (past new.vault)

-- No number of the store fell: neither how many lists were written, nor that of the next file.
abbrev pub AreNumbersUp : {V : Type 0} → StoreState V → StoreState V → Type 0
AreNumbersUp old new = (old.generation ≤ new.generation) × (old.next_file ≤ new.next_file)

-- At some time of the rounds the store held the first of some batches, and to merge the others with its parts there was
-- no number for another list or for the new parts, or the list would have had too many entries.
pub record WasSpent {V : Type 0} (old new : StoreState V) : Type 0 where
  pub at : StoreState V
  pub since : (old.front ≤ at.front) × AreNumbersUp old at
  pub until : (at.front ≤ new.front) × AreNumbersUp at new
  pub batches : List Batch
  pub holds : HoldsFront at batches
  pub files : List ℕ
  pub parts : List DayRows
  pub merge : IsMerge at (drop at.front batches) files parts
  pub spent : IsSpent files parts at

-- Why rounds failed for the first time, other than for want of memory.
abbrev pub HasKeptCause : {V : Type 0} → (V → ℕ) → StoreState V → StoreState V → Option KeepFault → Type 0
HasKeptCause faults old new None = ⊤
HasKeptCause faults old new (Some (Halted n)) = old.halted ≡ Some n
HasKeptCause faults old new (Some Spent) = WasSpent old new
HasKeptCause faults old new (Some VaultFault) = Rose (faults old.vault) (faults new.vault)
HasKeptCause faults old new (Some Memory) = ⊥

-- Rounds, and what they came to.
pub record HaveRounds {V : Type 0} (told : Type 0) (past : V → Past) (faults : V → ℕ) (old new : StoreState V)
    (before after : PassState EntryRows) (kept : Kept) : Type 0 where
  pub keeping : IsKeeping told past old new before after
  pub stays : faults old.vault ≤ faults new.vault
  pub numbers : AreNumbersUp old new
  pub cause : HasKeptCause faults old new kept.fault
  -- Without a fault the store has not halted, if it had not before.
  pub on : kept.fault ≡ None → new.halted ≡ old.halted

-- After these rounds the store holds what the pass had seen before them, unless one of them failed.
abbrev pub HoldsThat : {V : Type 0} → StoreState V → PassState EntryRows → Kept → Type 0
HoldsThat new before kept = kept.fault ≡ None → kept.memory ≡ false → length before.seen ≤ new.front

-- what no round came to
abbrev pub no_rounds : Kept
no_rounds = record { fault = None; memory = false }

-- what a round with this answer came to
abbrev pub kept_of : Result ℕ KeepFault → Kept
kept_of (Ok n) = no_rounds
kept_of (Err (Halted n)) = record { fault = Some (Halted n); memory = false }
kept_of (Err Spent) = record { fault = Some Spent; memory = false }
kept_of (Err VaultFault) = record { fault = Some VaultFault; memory = false }
kept_of (Err Memory) = record { fault = None; memory = true }

-- what rounds came to, and then further ones
abbrev pub kept_then : Kept → Kept → Kept
kept_then first next = record { fault = option_or first.fault next.fault; memory = first.memory || next.memory }
