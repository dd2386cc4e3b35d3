-- What a single caller sees of the history.
use Rattle.std.proofs.Common.{◌≡◌, inl, inr, ℕ, List, [], ◌∷◌, ◌++◌, append-nil, ap, subst, sym, ◌∙◌, arith}
use Rattle.std.proofs.lemmas.List.{map-append}
use Rattle.log_model.specs.History.{History, batches_in, entry_rows}
use Rattle.log_model.specs.Row.{Batch, Row}
use Rattle.log_desk.specs.EntryRows.{EntryRows}
use Rattle.log_desk.proofs.SeenLaws.{follows, gains, none_beside_one}
use Rattle.log_desk.specs.Calls.{Inserted, IsRefused}
use Rattle.log_desk.specs.Passes.{IsPassOf, LockId, PassState}
use Rattle.log_desk.specs.declared.fault.InsertFault.{InsertFault}
use Rattle.log_desk.specs.Seen.{Caller, Follows, Gains, Seen, caller_of, seen_of}
use Rattle.vl_session.proofs.SeenLemmas.{follows_none}
use Rattle.lone_desk.specs.Alone.{FollowsAlone, GainsAlone, IsAlone}

-- No one else added anything.
pub same_history : (caller : Caller) → IsAlone caller → (old new : Seen) → Follows caller old new
    → new.history ≡ old.history
same_history caller alone old new follows =
    follows.longer
    ∙ ap (λ (others : History). old.history ++ others)
    (none_beside_one caller follows.others alone.one_pass alone.first follows.strange) ∙ append-nil old.history

-- No one else settles batches.
pub same_settled : (caller : Caller) → IsAlone caller → (old new : Seen) → Follows caller old new
    → new.settled ≡ old.settled
same_settled caller alone old new follows = follows.stays (omega (arith, alone.settles))

-- the batches with one entry more, which comes right after them
pub batches-gained : (caller : Caller) (old new : Seen) (rows : List Row) → IsAlone caller → Gains caller old new rows
    → batches_in new.history ≡ batches_in old.history ++ rows ∷ []
batches-gained caller old new rows alone gains =
    let last : gains.others ++ gains.entry ∷ [] ≡ gains.entry ∷ [] =
    ap (λ (others : History). others ++ gains.entry ∷ []) (none_beside_one caller gains.others alone.one_pass alone.first gains.strange) in
    ap batches_in gains.longer
    ∙ ap (λ (later : History). batches_in (old.history ++ later)) last
    ∙ map-append entry_rows old.history (gains.entry ∷ [])
    ∙ ap (λ rows. batches_in old.history ++ rows ∷ []) gains.rows

-- the batches after an insert
pub batches-with : (old new : Seen) (batch : Batch) → GainsAlone old new batch
    → batches_in new.history ≡ batches_in old.history ++ batch ∷ []
batches-with old new batch (caller, alone, gains) = batches-gained caller old new batch alone gains

-- nothing was added, and as much is settled
pub same-alone : (old new : Seen) → FollowsAlone old new → (new.history ≡ old.history) × (new.settled ≡ old.settled)
same-alone old new (caller, alone, follows) = (
  same_history caller alone old new follows,
  same_settled caller alone old new follows,
)

pub settled-alone : (old new : Seen) (batch : Batch) → GainsAlone old new batch → new.settled ≡ old.settled
settled-alone old new batch (caller, alone, gains) = gains.stays (omega (arith, alone.settles))

-- ---- the desk's inserts

pub gained : (l : LockId) (batch : Batch) (number : ℕ) (p r : PassState EntryRows) → IsAlone (caller_of p) → IsPassOf l p
    → Inserted batch number p r → GainsAlone (seen_of p) (seen_of r) batch
gained l batch number p r alone is inserted = (caller_of p, alone, gains l batch number p r is inserted)

-- a refused batch added nothing
pub followed : (l : LockId) (fault : InsertFault) (p r : PassState EntryRows) → IsAlone (caller_of p) → IsPassOf l p
    → IsRefused l fault p r → FollowsAlone (seen_of p) (seen_of r)
followed l fault p r alone is (inl (looked, refuses)) = (caller_of p, alone, follows l p r is looked)
followed l fault p r alone is (inr (memory, same)) = (
  caller_of p,
  alone,
  subst (λ s. Follows (caller_of p) (seen_of p) (seen_of s)) (sym same) (follows_none (caller_of p) (seen_of p)),
)
