-- What becomes of lines that are accepted.
use Rattle.std.specs.Prelude.{◌≡◌, ℕ, pos, List, [], ◌∷◌, length, Option, None, Some}
use Rattle.log_model.specs.Core.{held_limit}
use Rattle.log_model.specs.History.{History}
use Rattle.log_model.specs.Row.{Row}
use Rattle.ingest_row.specs.Ingest.{Options}
use Rattle.ingest_row.specs.Intake.{IsIntake, Outcome, refused_from, rows_read}
use Rattle.vl_session.specs.Insert.{HasInsertOutcome, InsertOutcome, full, insert_effect, large, no_row, spent, taken}
use Rattle.log_desk.specs.Seen.{Caller, Seen}
use Rattle.vl_session.specs.Seen.{Has, asks}
use Rattle.vl_session.specs.declared.insert.Insertion.{Insertion}
use Rattle.vl_session.specs.declared.insert.InsertionFault.{InsertionFault}
use Rattle.vl_session.specs.declared.insert.InsertionFault.TheVariants as faults

-- the number of the batch of these rows, if there are any: the batch is the last one of the history
abbrev pub batch_number : List Row → History → Option ℕ
batch_number [] history = None
batch_number (row ∷ rows) history = Some (length history)

-- the outcome of lines with these rows, if they are inserted
abbrev pub accepted : List Row → List Outcome → InsertOutcome
accepted [] outcomes = no_row outcomes
accepted (row ∷ rows) outcomes = taken outcomes

-- The lines of the body have these outcomes. Their rows are one entry more, which is the caller's own and the last, if
-- there are any.
pub record IsInsertion (caller : Caller) (options : Options) (now : ℕ) (body : List ℕ) (old new : Seen)
    (insertion : Insertion) : Type 0 where
  pub outcomes : List Outcome
  pub given : IsIntake options (pos now) body outcomes
  pub has_outcome : HasInsertOutcome options now body new (accepted (rows_read outcomes) outcomes)
  pub has : Has caller old new (insert_effect (accepted (rows_read outcomes) outcomes))
  pub accepted_are : insertion.accepted ≡ length (rows_read outcomes)
  pub batch : insertion.batch ≡ batch_number (rows_read outcomes) new.history
  pub refused : insertion.refused ≡ refused_from 1 outcomes

-- that is the outcome of the body, and nothing was added
abbrev pub IsRefusal : Caller → Options → ℕ → List ℕ → Seen → Seen → InsertOutcome → Type 0
IsRefusal caller options now body old new outcome =
    Has caller old new (insert_effect outcome) × HasInsertOutcome options now body new outcome

-- the lines weigh too much, or memory ran out
abbrev pub IsOfLines : InsertionFault → Type 0
IsOfLines (faults.Large weight) = Unit {0}
IsOfLines (faults.Full limit) = ⊥
IsOfLines faults.Spent = ⊥
IsOfLines faults.Memory = Unit {0}

-- Why nothing is inserted. `Memory` may always be returned.
abbrev pub RefusesLines : Caller → Options → ℕ → List ℕ → Seen → Seen → InsertionFault → Type 0
RefusesLines caller options now body old new (faults.Large weight) =
    IsRefusal caller options now body old new (large weight)
RefusesLines caller options now body old new (faults.Full limit) =
    (limit ≡ held_limit) × IsRefusal caller options now body old new full
RefusesLines caller options now body old new faults.Spent = IsRefusal caller options now body old new spent
RefusesLines caller options now body old new faults.Memory = Has caller old new asks
