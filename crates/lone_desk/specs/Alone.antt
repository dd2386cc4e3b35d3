-- A caller that is the only one of its desk.
use Rattle.std.specs.Prelude.{◌≡◌, ℕ, pos, List, [], ◌∷◌, Result, Ok, Err}
use Rattle.log_model.specs.Row.{Batch}
use Rattle.ingest_row.specs.Ingest.{Options}
use Rattle.ingest_row.specs.Intake.{Outcome}
use Rattle.log_desk.specs.Seen.{Caller, Follows, Gains, Seen}
use Rattle.vl_session.specs.Incoming.{IsIncoming, IsNoBatch}
use Rattle.vl_session.specs.Insertion.{IsInsertion, RefusesLines}
pub use Rattle.log_desk.specs.Faults.{last_number}
pub use Rattle.vl_session.specs.Seen.{Has, IsFull, batches_of_rows}
pub use Rattle.vl_session.specs.declared.insert.Incoming.{Incoming}
pub use Rattle.vl_session.specs.declared.insert.Insertion.{Insertion}
use Rattle.vl_session.specs.declared.insert.InsertionFault.{InsertionFault}

-- Its desk is made for one pass, which is the first.
pub record IsAlone (caller : Caller) : Type 0 where
  pub one_pass : caller.lock.passes ≡ 1
  pub first : caller.numbers ≡ 0 ∷ []
  pub settles : caller.may_settle ≡ 1

-- such a caller inserted a batch
abbrev pub GainsAlone : Seen → Seen → Batch → Type 0
GainsAlone old new batch = (caller : Caller) × IsAlone caller × Gains caller old new batch

-- such a caller added nothing
abbrev pub FollowsAlone : Seen → Seen → Type 0
FollowsAlone old new = (caller : Caller) × IsAlone caller × Follows caller old new

-- such a caller had lines accepted
abbrev pub InsertsAlone : Options → ℕ → List ℕ → Seen → Seen → Insertion → Type 0
InsertsAlone options now body old new insertion =
    (caller : Caller) × IsAlone caller × IsInsertion caller options now body old new insertion

-- it had none accepted, for this reason
abbrev pub RefusesAlone : Options → ℕ → List ℕ → Seen → Seen → InsertionFault → Type 0
RefusesAlone options now body old new fault =
    (caller : Caller) × IsAlone caller × RefusesLines caller options now body old new fault

-- what reading the lines of a body gives, before they are inserted
abbrev pub IsReading : Options → ℕ → List ℕ → Result Incoming InsertionFault → Type 0
IsReading options now body (Ok incoming) =
    (outcomes : List Outcome) × IsIncoming options (pos now) body outcomes incoming
IsReading options now body (Err fault) = IsNoBatch options (pos now) body fault
