-- The answer of a trial.
use Rattle.std.specs.Prelude.{◌≡◌, ℕ, pos, List, ◌++◌}
use Rattle.log_model.specs.Row.{Row}
use Rattle.lone_desk.specs.Answer.{IsAnswerOver}
use Rattle.lone_desk.specs.Asked.{ForReadableQuery}
use Rattle.lone_desk.specs.Query.{batch_list_rows}
use Rattle.vl_trial.specs.QueryTexts.{count_text, errors_text, slow_text}
use Rattle.vl_trial.specs.Trial.{trial_batches}

-- The lines are the answer over the rows to the query that the text spells.
abbrev pub AreLines : List ℕ → ℕ → List Row → List ℕ → Type 0
AreLines text now rows lines = ForReadableQuery text (λ query. IsAnswerOver query (pos now) rows lines)

-- The answer is the lines of the three queries over the rows of the trial's batches, one query after another.
pub record IsTrialAnswer (seed rows now : ℕ) (answer : List ℕ) : Type 0 where
  pub counted : List ℕ
  pub errors : List ℕ
  pub slow : List ℕ
  pub are_counted : AreLines count_text now (batch_list_rows (trial_batches seed rows)) counted
  pub are_errors : AreLines errors_text now (batch_list_rows (trial_batches seed rows)) errors
  pub are_slow : AreLines slow_text now (batch_list_rows (trial_batches seed rows)) slow
  pub joined : answer ≡ counted ++ (errors ++ slow)
