-- What a body gives: its rows, and the lines that are refused (VictoriaLogs, "Data ingestion").
use Rattle.std.specs.Prelude.{◌≡◌, ◌≢◌, ℕ, ℤ, suc, List, [], ◌∷◌, ◌++◌, IsTrue, IsFalse}
use Rattle.std.specs.List.{AllZip}
use Rattle.log_model.specs.Line.{is_blank, lines_of}
use Rattle.log_model.specs.Row.{Row}
use Rattle.ingest_row.specs.Ingest.{IsRowOfLine, Options}
use Rattle.ingest_row.specs.Refusal.{IsRefused}
use Rattle.ingest_row.specs.declared.body.Intake.{Intake}
use Rattle.ingest_row.specs.declared.body.LineFault.{LineFault}
use Rattle.ingest_row.specs.declared.body.LineOutcome.{LineOutcome}
use Rattle.ingest_row.specs.declared.body.LineOutcome.TheVariants as outcomes
use Rattle.ingest_row.specs.declared.kind.LineKind.{LineKind}
use Rattle.ingest_row.specs.declared.kind.LineKind.TheVariants.{Memory}

-- what becomes of a line
pub data Outcome : Type 0 where
  passed_over : Outcome
  read : Row → Outcome
  refused : LineKind → Outcome

-- What becomes of a line that came in at the moment `now`: a line without anything is skipped, and each other one
-- has a row, or there is a reason why it has none. Running out of memory is not such a reason.
abbrev pub IsOutcome : Options → ℤ → List ℕ → Outcome → Type 0
IsOutcome options now line passed_over = IsTrue (is_blank line)
IsOutcome options now line (read row) = IsFalse (is_blank line) × IsRowOfLine options now line row
IsOutcome options now line (refused kind) =
    IsFalse (is_blank line) × (kind ≢ Memory) × IsRefused kind options now line
    × ((row : Row) → IsRowOfLine options now line row → ⊥)

-- each line of the body has its outcome, in order
abbrev pub IsIntake : Options → ℤ → List ℕ → List Outcome → Type 0
IsIntake options now body outcomes = AllZip (IsOutcome options now) (lines_of body) outcomes

abbrev pub rows_read : List Outcome → List Row
rows_read [] = []
rows_read (passed_over ∷ outcomes) = rows_read outcomes
rows_read (read row ∷ outcomes) = row ∷ rows_read outcomes
rows_read (refused kind ∷ outcomes) = rows_read outcomes

-- the refused lines, where the first line has this number
abbrev pub refused_from : ℕ → List Outcome → List LineFault
refused_from number [] = []
refused_from number (passed_over ∷ outcomes) = refused_from (suc number) outcomes
refused_from number (read row ∷ outcomes) = refused_from (suc number) outcomes
refused_from number (refused kind ∷ outcomes) =
    record { line = number; kind = kind } ∷ refused_from (suc number) outcomes

-- The lines of the body have these outcomes, and the intake has their rows and those that are refused.
pub record IsTaken (options : Options) (now : ℤ) (body : List ℕ) (outcomes : List Outcome)
    (intake : Intake) : Type 0 where
  pub given : IsIntake options now body outcomes
  pub rows : intake.rows ≡ rows_read outcomes
  pub refused : intake.refused ≡ refused_from 1 outcomes

-- what becomes of a line, as the code has it
abbrev pub outcome_of : LineOutcome → Outcome
outcome_of outcomes.PassedOver = passed_over
outcome_of (outcomes.Read row) = read row
outcome_of (outcomes.Refused kind) = refused kind

-- Whatever the lines of the rest give, added to what was read, is what all lines give.
abbrev pub IsTaking : Options → ℤ → List ℕ → List ℕ → ℕ → Intake → Type 0
IsTaking options now body rest number intake =
    (later : List Outcome) → IsIntake options now rest later
    → (all : List Outcome) × IsIntake options now body all
    × (rows_read all ≡ intake.rows ++ rows_read later)
    × (refused_from 1 all ≡ intake.refused ++ refused_from (suc number) later)
