-- What the rows of a body weigh.
use Rattle.std.specs.Prelude.{◌≡◌, ℕ, ℤ, ◌+◌, ◌-◌, ◌^◌, ◌<◌, ◌≤◌, List, min}
use Rattle.log_model.specs.Row.{batch_limit, batch_weight}
use Rattle.ingest_row.specs.Ingest.{Options}
use Rattle.ingest_row.specs.Intake.{IsIntake, IsTaken, IsTaking, Outcome, rows_read}
use Rattle.ingest_row.specs.declared.taking.Taking.{Taking}
use Rattle.ingest_row.specs.declared.weigh.Weighed.{Weighed}
use Rattle.ingest_row.specs.declared.weigh.Weighed.TheVariants.{Light, Heavy}

-- The lines of the body have these outcomes. Their rows are there if they can be one batch, and else their weight.
abbrev pub IsWeighed : Options → ℤ → List ℕ → List Outcome → Weighed → Type 0
IsWeighed options now body outcomes (Light intake) =
    IsTaken options now body outcomes intake × (batch_weight (rows_read outcomes) ≤ batch_limit)
IsWeighed options now body outcomes (Heavy weight) =
    IsIntake options now body outcomes × (weight ≡ min (batch_weight (rows_read outcomes)) (2 ^ 64 - 1))
    × (batch_limit < batch_weight (rows_read outcomes))

-- The lines have these outcomes, and this is the weight of their rows and of those before.
pub record IsWeighing (options : Options) (now : ℤ) (lines : List ℕ) (before : ℕ) (outcomes : List Outcome)
    (weight : ℕ) : Type 0 where
  pub given : IsIntake options now lines outcomes
  pub is : weight ≡ min (before + batch_weight (rows_read outcomes)) (2 ^ 64 - 1)

-- What was taken in of the body, when these lines are left.
pub record IsTakingIn (options : Options) (now : ℤ) (body rest : List ℕ) (taking : Taking) : Type 0 where
  pub given : IsTaking options now body rest taking.number taking.intake
  pub weighs : taking.weight ≡ min (batch_weight taking.intake.rows) (2 ^ 64 - 1)
