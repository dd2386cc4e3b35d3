-- What a keeper's store holds, and what a round does.
use Rattle.std.specs.Prelude.{◌≡◌, ◌⊎◌, ℕ, suc, ◌<◌, ◌≤◌, List, [], ◌∷◌, ◌++◌, length, map, take, drop, Option, None}
use Rattle.std.specs.Prelude.{Some}
use Rattle.log_model.specs.Batches.{AreOf}
use Rattle.log_model.specs.History.{Numbered, batches_in, numbered_in}
use Rattle.log_model.specs.Row.{Batch}
use Rattle.day_model.specs.Days.{AreOfTheirDays, DayRows}
use Rattle.vl_io.specs.Faults.{Rose}
use Rattle.vl_vault.specs.Disk.{Past, Image}
use Rattle.vl_vault.specs.Moments.{Always, EachImage}
use Rattle.turn_lock.specs.declared.view.Entry.{Entry}
use Rattle.turn_lock.specs.declared.view.TurnEnd.{TurnEnd}
use Rattle.turn_lock.specs.Entries.{Continues}
use Rattle.turn_lock.specs.Passes.{IsPassOf, LockId, PassState}
use Rattle.log_core.specs.Entries.{seen_history}
use Rattle.log_core.specs.declared.entries.EntryRows.{EntryRows}
use Rattle.part_store.specs.State.{HasSameList, IsReplaced, IsSpent, Listed, StoreState}
use Rattle.part_store.specs.Finds.{Finds}
use Rattle.part_model.specs.Part.{rows_weight}
use Rattle.merge_plan.specs.Joining.{joined_last}
use Rattle.merge_plan.specs.Planned.{AreListed, JoinsDays, day_rows, listed_weights}
use Rattle.log_desk.specs.Seen.{caller_of}
use Rattle.log_desk.specs.declared.fault.KeepFault.{KeepFault}
use Rattle.log_desk.specs.declared.fault.KeepFault.TheVariants.{Halted, Spent, VaultFault, Memory}

-- the batches of what was seen
abbrev pub batches_seen : List (Entry EntryRows) → List Batch
batches_seen seen = batches_in (seen_history seen)

-- the rows of each part of a store
abbrev pub rows_listed : List Listed → List (List Numbered)
rows_listed parts = map (λ part. part.rows) parts

-- The store holds exactly the first so many of these batches as its front says.
pub record HoldsFront {V : Type 0} (store : StoreState V) (batches : List Batch) : Type 0 where
  pub within : store.front ≤ length batches
  pub are : AreOf (λ part. part.rows) store.parts (take store.front batches)

-- A round may begin. The pass is one of the desk and may settle, the store holds the first of the batches that it has
-- seen, and no more are settled than the store holds.
pub record MayKeep {V : Type 0} (lock : LockId) (store : StoreState V) (pass : PassState EntryRows) : Type 0 where
  pub of_desk : IsPassOf lock pass
  pub may_settle : 0 < pass.may_settle
  pub holds : HoldsFront store (batches_seen pass.seen)
  pub mark : pass.mark ≤ store.front

-- The caller stays who it was, and has seen more: others added entries, batches were settled, it left more turns.
pub record GoesOn (lock : LockId) (old new : PassState EntryRows) : Type 0 where
  pub caller : caller_of new ≡ caller_of old
  pub adds : Continues lock.passes old.numbers old.seen new.seen
  pub settled : old.mark ≤ new.mark
  pub more_turns : List TurnEnd
  pub turns : new.turns ≡ old.turns ++ more_turns

-- The image finds the first f of these batches, or the first n.
abbrev pub FindsFirst : ℕ → ℕ → List Batch → Image → Type 0
FindsFirst f n batches image = Finds (take f batches) image ⊎ Finds (take n batches) image

-- A round, where the desk had `count` batches at its first turn.
pub record IsRound {V : Type 0} (told : Type 0) (past : V → Past) (count : ℕ) (old new : StoreState V)
    (before after : PassState EntryRows) : Type 0 where
  pub at_least : length before.seen ≤ count
  pub at_most : count ≤ length after.seen
  pub goes_on : old.front ≤ count
  -- Without new batches no call is made on the vault.
  pub quiet : count ≡ old.front → new ≡ old
  pub front : (new.front ≡ old.front) ⊎ (new.front ≡ count)
  -- At every moment each image finds the batches from before, or all of those.
  pub moments : told → old.halted ≡ None
      → Always (EachImage (FindsFirst old.front count (batches_seen after.seen))) (past old.vault) (past new.vault)

-- the numbered rows of each of these batches, where this many come before them
abbrev pub rows_of_each : ℕ → List Batch → List (List Numbered)
rows_of_each count [] = []
rows_of_each count (batch ∷ batches) = numbered_in (suc count) batch ∷ rows_of_each (suc count) batches

-- These files of the store are to go, and these parts are to come in their place, each beside its day. Together with
-- the kept ones they have the weights that joining the new batches gives.
pub record IsMerge {V : Type 0} (store : StoreState V) (batches : List Batch) (files : List ℕ)
    (parts : List DayRows) : Type 0 where
  pub listed : AreListed store.parts files
  pub days : AreOfTheirDays parts
  pub joins : JoinsDays store.parts (rows_of_each store.front batches) files parts

-- On each day the weights of the parts are those of before, of which the last was joined with what these batches have
-- of the day.
abbrev pub HasJoined : {V : Type 0} → List Batch → StoreState V → StoreState V → Type 0
HasJoined batches old new = (day : ℕ) → listed_weights day new.parts
    ≡ joined_last (listed_weights day old.parts) (map rows_weight (day_rows day (rows_of_each old.front batches)))

-- The store has such parts in place of such files, under the next generation.
pub record IsMerged {V : Type 0} (batches : List Batch) (old new : StoreState V) : Type 0 where
  pub files : List ℕ
  pub parts : List DayRows
  pub merge : IsMerge old batches files parts
  pub room : IsSpent files parts old → ⊥
  pub replaced : IsReplaced files parts new.front old new
  pub weights : HasJoined batches old new

-- of these batches, those up to a count that the store does not hold
abbrev pub later_batches : {V : Type 0} → StoreState V → ℕ → List Batch → List Batch
later_batches store count batches = drop store.front (take count batches)

-- After a round that answered n: the first n batches are held and settled, and a crash finds them.
pub record HasKept {V : Type 0} (told : Type 0) (past : V → Past) (count : ℕ) (old new : StoreState V)
    (after : PassState EntryRows) (n : ℕ) : Type 0 where
  pub counted : n ≡ count
  pub front : new.front ≡ n
  pub settled : n ≤ after.mark
  pub finds : told → EachImage (Finds (take n (batches_seen after.seen))) (past new.vault)
  pub on : new.halted ≡ None
  -- New batches were merged with what was stored.
  pub merged : old.front < n → IsMerged (later_batches old n (batches_seen after.seen)) old new

-- Why a round ended that had these new batches, and what it left.
abbrev pub EndsRound : {V : Type 0} → (V → ℕ) → List Batch → StoreState V → StoreState V → KeepFault → Type 0
EndsRound faults batches old new (Halted n) = (old.halted ≡ Some n) × (new ≡ old)
EndsRound faults batches old new Spent = (new ≡ old)
    × (files : List ℕ) × (parts : List DayRows) × IsMerge old batches files parts × IsSpent files parts old
EndsRound faults batches old new VaultFault = Rose (faults old.vault) (faults new.vault)
    × (new.halted ≡ Some (faults new.vault)) × HasSameList old new × (files : List ℕ) × (parts : List DayRows)
    × IsMerge old batches files parts × (IsSpent files parts old → ⊥)
EndsRound faults batches old new Memory = (new.halted ≡ None) × ((new ≡ old) ⊎ IsMerged batches old new)
