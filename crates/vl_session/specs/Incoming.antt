-- Lines on their way to the desk.
use Rattle.std.specs.Prelude.{◌≡◌, ◌≢◌, ℕ, ℤ, ◌-◌, ◌^◌, ◌<◌, ◌≤◌, List, [], ◌∷◌, ◌++◌, length, min, Option}
use Rattle.std.specs.Prelude.{None, Some, Bool, codes, decimal, if◌then◌else◌, is_some}
use Rattle.log_model.specs.Field.{Field}
use Rattle.log_model.specs.Row.{Batch, Row, batch_limit, batch_weight}
use Rattle.log_desk.specs.Seen.{Caller, Seen}
use Rattle.log_desk.specs.declared.fault.InsertFault.{InsertFault}
use Rattle.log_desk.specs.declared.fault.InsertFault.TheVariants as desk
use Rattle.ingest_row.specs.Ingest.{Options}
use Rattle.ingest_row.specs.Intake.{IsIntake, Outcome, refused_from, rows_read}
use Rattle.vl_session.specs.Insert.{InsertOutcome, fault_fields, full, large, spent}
use Rattle.vl_session.specs.Seen.{IsRefused, Takes}
use Rattle.vl_session.specs.declared.insert.Incoming.{Incoming}
use Rattle.vl_session.specs.declared.insert.Insertion.{Insertion}
use Rattle.vl_session.specs.declared.insert.InsertionFault.{InsertionFault}
use Rattle.vl_session.specs.declared.insert.InsertionFault.TheVariants.{Large, Full, Spent, Memory}

-- the rows as one batch, if there are any
abbrev pub HoldsRows : Option Batch → List Row → Type 0
HoldsRows None rows = rows ≡ []
HoldsRows (Some batch) rows = (0 < length rows) × (batch_weight rows ≤ batch_limit) × (batch ≡ rows)

-- The lines of the body have these outcomes.
pub record IsIncoming (options : Options) (now : ℤ) (body : List ℕ) (outcomes : List Outcome)
    (incoming : Incoming) : Type 0 where
  pub given : IsIntake options now body outcomes
  pub accepted : incoming.accepted ≡ length (rows_read outcomes)
  pub refused : incoming.refused ≡ refused_from 1 outcomes
  pub holds : HoldsRows incoming.batch (rows_read outcomes)

-- why the rows are not a batch
abbrev pub IsNoBatch : Options → ℤ → List ℕ → InsertionFault → Type 0
IsNoBatch options now body (Large weight) =
    (outcomes : List Outcome) × IsIntake options now body outcomes
    × (weight ≡ min (batch_weight (rows_read outcomes)) (2 ^ 64 - 1))
    × (batch_limit < batch_weight (rows_read outcomes))
IsNoBatch options now body (Full held) = ⊥
IsNoBatch options now body Spent = ⊥
IsNoBatch options now body Memory = Unit {0}

-- The batch was inserted, if there is one, and this is its number.
abbrev pub InsertsBatch : Caller → Option Batch → Seen → Seen → Option ℕ → Type 0
InsertsBatch caller None old new number = (new ≡ old) × (number ≡ None)
InsertsBatch caller (Some batch) old new number =
    Takes caller old new batch × (number ≡ Some (length new.history))

pub record Commits (caller : Caller) (incoming : Incoming) (old new : Seen) (insertion : Insertion) : Type 0 where
  pub accepted : insertion.accepted ≡ incoming.accepted
  pub refused : insertion.refused ≡ incoming.refused
  pub inserts : InsertsBatch caller incoming.batch old new insertion.batch

-- what a fault of the desk is to the caller
abbrev pub fault_of : InsertFault → InsertionFault
fault_of (desk.Full limit) = Full limit
fault_of desk.Spent = Spent
fault_of desk.Memory = Memory

-- why the rows are not inserted, if there are any
abbrev pub IsUncommitted : Caller → Incoming → Seen → Seen → InsertionFault → Type 0
IsUncommitted caller incoming old new fault =
    (incoming.batch ≢ None) × ((why : InsertFault) × (fault ≡ fault_of why) × IsRefused caller old new why)

-- a field with this value, if it is not empty
abbrev pub filled : List ℕ → List ℕ → List Field
filled name [] = []
filled name (byte ∷ bytes) = (name, byte ∷ bytes) ∷ []

-- the number of a batch, if there is one
abbrev pub batch_text : Bool → ℕ → List ℕ
batch_text there number = if there then decimal number else []

-- the reply's fields, where the rows are the batch with this number, if there are any
abbrev pub fields_said : Incoming → ℕ → List Field
fields_said incoming number =
    (codes "accepted", decimal incoming.accepted)
    ∷ (filled (codes "batch") (batch_text (is_some incoming.batch) number)
    ++ (fault_fields incoming.refused ++ (codes "refused", decimal (length incoming.refused)) ∷ []))

-- what a fault is to the caller; out of memory is not an outcome
abbrev pub insert_outcome_of : InsertionFault → Option InsertOutcome
insert_outcome_of (Large weight) = Some (large weight)
insert_outcome_of (Full limit) = Some full
insert_outcome_of Spent = Some spent
insert_outcome_of Memory = None
