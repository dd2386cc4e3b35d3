-- What has been seen, as a history of batches.
use Rattle.std.proofs.Common.{◌≡◌, ℕ, ◌+◌, ◌<◌, ◌≤◌, List, [], ◌∷◌, ◌++◌, length, refl, sym, ap, subst, ◌∙◌, arith}
use Rattle.std.proofs.Common.{append_assoc, length-append}
use Rattle.std.proofs.lemmas.List.{length-map}
use Rattle.log_model.specs.Core.{held_limit}
use Rattle.log_model.specs.History.{entry_rows}
use Rattle.log_model.specs.Row.{Batch, Row, batch_limit, batch_weight}
use Rattle.ingest_row.specs.Ingest.{Options}
use Rattle.ingest_row.specs.Intake.{Outcome, rows_read}
use Rattle.lone_desk.specs.Insert.{HasInsertOutcome, insert_effect}
use Rattle.lone_desk.specs.Insertion.{accepted, batch_number}
use Rattle.lone_desk.specs.Seen.{Caller, Gains, Seen}
use Rattle.lone_desk.specs.Alone.{Has, InsertsAlone, Insertion, IsAlone, last_number}
use Rattle.lone_desk.proofs.Laws.{batches-gained}
use Rattle.vl_pipe.specs.Groups.{Arrival}
use Rattle.vl_pipe.specs.Load.{AddsRows, AreSettled, IsFull, IsHeld, IsLast, TakesGroup}
use Rattle.vl_pipe.proofs.GroupLemmas.{append_nil}

as_many : (opened : List Batch) (seen : Seen) (batches : List Batch) → IsHeld opened seen batches
    → length seen.history ≡ length opened + length batches
as_many opened seen batches held =
    omega (
      arith,
      ap length held.entered,
      length-map seen.history entry_rows,
      length-append opened batches,
    )

-- There is a number for one batch more.
pub held_numbered : (opened : List Batch) (seen : Seen) (batches : List Batch) → IsHeld opened seen batches
    → seen.settled + held_limit < last_number → length seen.history < last_number
held_numbered opened seen batches held numbers = omega (arith, held.few, numbers)

-- Where exactly the opened batches are settled, all others are unsettled.
pub held_few : (opened : List Batch) (seen : Seen) (batches : List Batch) → IsHeld opened seen batches
    → AreSettled opened seen → length batches ≤ held_limit
held_few opened seen batches held settled =
    omega (arith, held.few, settled, as_many opened seen batches held)

pub held_all : (opened : List Batch) (seen : Seen) (batches : List Batch) → IsHeld opened seen batches
    → AreSettled opened seen → IsFull seen → length batches ≡ held_limit
held_all opened seen batches held settled full =
    omega (arith, full, settled, as_many opened seen batches held)

module _ (caller : Caller) (alone : IsAlone caller) (options : Options) (now : ℕ) (body : List ℕ)
    (outcomes : List Outcome) (old new : Seen) where
  adds : (rows : List Row) → rows_read outcomes ≡ rows
      → HasInsertOutcome options now body new (accepted rows outcomes)
      → Has caller old new (insert_effect (accepted rows outcomes)) → AddsRows old new rows
  adds [] none comes stays = (
    omega arith,
    ap (λ (seen : Seen). seen.settled) stays,
    λ opened batches held. subst (λ seen. IsHeld opened seen (batches ++ [])) (sym stays)
        (subst (IsHeld opened old) (sym (append_nil batches)) held),
  )
  adds (row ∷ rows) are comes gains = (
    subst (λ rows. batch_weight rows ≤ batch_limit) are comes.0.light,
    (subst (Gains caller old new) are gains).stays (omega (arith, alone.settles)),
    λ opened batches held.
        let gained : Gains caller old new (row ∷ rows) = subst (Gains caller old new) are gains in
        record {
          entered = batches-gained caller old new (row ∷ rows) alone gained
              ∙ ap (λ bs. bs ++ (row ∷ rows) ∷ []) held.entered
              ∙ append_assoc opened batches ((row ∷ rows) ∷ []);
          few = comes.1.few;
        },
  )

-- A group was loaded.
pub takes : (arrival : Arrival) (body : List ℕ) (old new : Seen) (insertion : Insertion)
    → (inserts : InsertsAlone arrival.options arrival.moment body old new insertion)
    → TakesGroup arrival body inserts.2.outcomes old new
takes arrival body old new insertion (caller, alone, inserts) = record {
  intake = inserts.given;
  adds = adds caller alone arrival.options arrival.moment body inserts.outcomes old new
      (rows_read inserts.outcomes) refl inserts.has_outcome inserts.has;
}

-- The number of a batch is that of the last entry.
pub is_last : (arrival : Arrival) (body : List ℕ) (old new : Seen) (insertion : Insertion)
    → InsertsAlone arrival.options arrival.moment body old new insertion
    → IsLast old.history new.history insertion.batch
is_last arrival body old new insertion (caller, alone, inserts) =
    subst (IsLast old.history new.history) (sym inserts.batch) (numbered (rows_read inserts.outcomes) inserts.has)
  where
    numbered : (rows : List Row) → Has caller old new (insert_effect (accepted rows inserts.outcomes))
        → IsLast old.history new.history (batch_number rows new.history)
    numbered [] has = ap (λ (seen : Seen). seen.history) has
    numbered (row ∷ rows) has = refl
