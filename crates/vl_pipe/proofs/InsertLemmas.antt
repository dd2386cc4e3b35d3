-- Why a group is not loaded.
use Rattle.std.proofs.Common.{◌≡◌, ℕ, ◌+◌, ◌-◌, ◌^◌, ◌<◌, ◌≤◌, List, length, min, ap, arith}
use Rattle.log_model.specs.Core.{held_limit}
use Rattle.log_model.specs.Line.{lines_of}
use Rattle.log_model.specs.Row.{Row, batch_weight}
use Rattle.ingest_row.specs.Intake.{rows_read}
use Rattle.lone_desk.specs.Seen.{Caller, Seen}
use Rattle.lone_desk.specs.Insert.{full, large, spent}
use Rattle.lone_desk.specs.Insertion.{IsRefusal}
use Rattle.lone_desk.specs.InsertionFault.TheVariants as faults
use Rattle.lone_desk.specs.Alone.{IsAlone, IsFull, RefusesAlone, last_number}
use Rattle.vl_pipe.specs.Groups.{Arrival}
use Rattle.vl_pipe.specs.Load.{RefusesGroup}
use Rattle.vl_pipe.specs.declared.interrupt.Interrupt.TheVariants.{Beyond}
use Rattle.vl_pipe.specs.declared.interrupt.Limit.TheVariants as limits
use Rattle.lone_desk.proofs.Laws.{same_history, same_settled}
use Rattle.vl_pipe.proofs.WeightLemmas.{rows_fit, rows_light}

-- what was told of a weight is the weight
told_whole : (told weight : ℕ) → told ≡ min weight (2 ^ 64 - 1) → weight < 2 ^ 64 → told ≡ weight
told_whole told weight is few = omega (arith, is, few)

-- What is held weighs and counts the same.
same_held : (old new : Seen) (rows : List Row) → new.history ≡ old.history → new.settled ≡ old.settled → IsFull new
    → length old.history ≡ old.settled + held_limit
same_held old new rows history settled is = omega (arith, is, ap length history, settled)

module _ (caller : Caller) (alone : IsAlone caller) (arrival : Arrival) (body : List ℕ) (old new : Seen) where
  refuses_large : (weight : ℕ) → length (lines_of body) ≤ 1000
      → IsRefusal caller arrival.options arrival.moment body old new (large weight)
      → RefusesGroup arrival body old (Beyond (limits.Large weight))
  refuses_large weight few refusal =
      let outcomes = refusal.1.0 in
      let rows = rows_read outcomes in
      let fit : batch_weight rows < 2 ^ 64 =
      rows_fit rows (length (lines_of body)) (rows_light arrival (lines_of body) outcomes refusal.1.1) few in
      let told : weight ≡ batch_weight rows = told_whole weight (batch_weight rows) refusal.1.2 fit in
      (outcomes, refusal.1.1, (told, omega (arith, told, refusal.1.3)))

  refuses_full : IsRefusal caller arrival.options arrival.moment body old new full
      → RefusesGroup arrival body old (Beyond limits.Full)
  refuses_full refusal =
      let follows = refusal.0.0 in (
        refusal.1.0,
        refusal.1.1.given,
        (
          same_held old new (rows_read refusal.1.0) (same_history caller alone old new follows)
              (same_settled caller alone old new follows) refusal.1.2,
          refusal.1.1.some,
          refusal.1.1.light,
        ),
      )

  -- There is a number for a batch.
  never_spent : length old.history < last_number
      → IsRefusal caller arrival.options arrival.moment body old new spent → ⊥
  never_spent numbered refusal =
      omega (arith, numbered, ap length (same_history caller alone old new refusal.0.0), refusal.1.3)

pub large_group : (arrival : Arrival) (body : List ℕ) (old new : Seen) (weight : ℕ) → length (lines_of body) ≤ 1000
    → RefusesAlone arrival.options arrival.moment body old new (faults.Large weight)
    → RefusesGroup arrival body old (Beyond (limits.Large weight))
large_group arrival body old new weight few (caller, alone, refusal) =
    refuses_large caller alone arrival body old new weight few refusal

pub full_group : (arrival : Arrival) (body : List ℕ) (old new : Seen) (held : ℕ)
    → RefusesAlone arrival.options arrival.moment body old new (faults.Full held)
    → RefusesGroup arrival body old (Beyond limits.Full)
full_group arrival body old new held (caller, alone, refusal) = refuses_full caller alone arrival body old new refusal.1

pub never_last : (arrival : Arrival) (body : List ℕ) (old new : Seen) → length old.history < last_number
    → RefusesAlone arrival.options arrival.moment body old new faults.Spent → ⊥
never_last arrival body old new numbered (caller, alone, refusal) =
    never_spent caller alone arrival body old new numbered refusal
