-- The batches of a trial, inserted one after another.
use Rattle.std.proofs.Common.{◌≡◌, ℕ, ◌<◌, ◌≤◌, List, [], ◌∷◌, ◌++◌, append_assoc, length, length-append}
use Rattle.std.proofs.Common.{ap, ◌∙◌, arith}
use Rattle.std.specs.Prelude.{flat_map}
use Rattle.std.proofs.lemmas.List.{length-map}
use Rattle.log_model.specs.History.{History, batches_in, entry_rows, rows_of}
use Rattle.log_model.specs.Row.{Batch, Row}
use Rattle.log_desk.specs.Faults.{Refuses}
use Rattle.log_desk.specs.Seen.{Seen}
use Rattle.log_desk.specs.declared.fault.InsertFault.TheVariants.{Full, Spent}
use Rattle.lone_desk.proofs.Laws.{batches-with, same-alone}
use Rattle.lone_desk.specs.Alone.{FollowsAlone, GainsAlone}
use Rattle.lone_desk.proofs.QueryLemmas.{history_rows}

-- one batch more
pub one_more : (old new : Seen) (batch : Batch) (left all : List Batch) → GainsAlone old new batch
    → batches_in old.history ++ batch ∷ left ≡ all → batches_in new.history ++ left ≡ all
one_more old new batch left all gains whole =
    ap (λ batches. batches ++ left) (batches-with old new batch gains)
    ∙ append_assoc (batches_in old.history) (batch ∷ []) left
    ∙ whole

few : (seen : Seen) (batch : Batch) (left all : List Batch) → batches_in seen.history ++ batch ∷ left ≡ all
    → length all ≤ 1000 → length seen.history < 1000
few seen batch left all whole small = omega (
  arith,
  ap length whole,
  length-append (batches_in seen.history) (batch ∷ left),
  length-map seen.history entry_rows,
)

module _ (old new : Seen) (batch : Batch) (left all : List Batch) (follows : FollowsAlone old new)
    (whole : batches_in old.history ++ batch ∷ left ≡ all) (small : length all ≤ 1000) where
  pub never_full : (held : ℕ) → Refuses (length new.history) new.settled (Full held) → ⊥
  never_full held refuses =
      let same = same-alone old new follows in
      omega (arith, refuses.0, ap length same.0, few old batch left all whole small)

  pub never_last : Refuses (length new.history) new.settled Spent → ⊥
  never_last refuses =
      let same = same-alone old new follows in
      omega (arith, refuses.1, ap length same.0, few old batch left all whole small)

-- the rows of the history
pub all_rows : (history : History) (all : List Batch) (rows : List Row) → batches_in history ≡ all
    → flat_map (λ batch. batch) all ≡ rows → rows_of history ≡ rows
all_rows history all rows are whole = history_rows history all are ∙ whole
