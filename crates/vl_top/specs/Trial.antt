-- How a trial ends.
use Rattle.std.specs.Prelude.{ℕ, List, []}
use Rattle.vl_io.specs.Change.{Change, IsCut, IsTold, IsUntold, Took}
use Rattle.vl_status.specs.Status.{no_memory_text}
use Rattle.vl_status.specs.declared.status.Status.{Status}
use Rattle.vl_status.specs.declared.status.Status.TheVariants as statuses
use Rattle.vl_trial.specs.Answer.{IsTrialAnswer}

-- The answer was written.
abbrev pub IsTrialDone : ℕ → ℕ → ℕ → Change → Change → Type 0
IsTrialDone seed rows now output errors =
    (answer : List ℕ) × IsTrialAnswer seed rows now answer × Took output answer × IsUntold errors

-- The output failed, and took a proper prefix of the answer.
abbrev pub IsTrialCut : ℕ → ℕ → ℕ → Change → Change → Type 0
IsTrialCut seed rows now output errors =
    (answer : List ℕ) × IsTrialAnswer seed rows now answer × IsCut output [] answer × IsUntold errors

-- Memory ran out, and nothing was written.
abbrev pub IsTrialStopped : Change → Change → Type 0
IsTrialStopped output errors = IsUntold output × IsTold errors [] no_memory_text

-- how a trial ends, by its status
abbrev pub EndsTrial : ℕ → ℕ → ℕ → Change → Change → Status → Type 0
EndsTrial seed rows now output errors statuses.Done = IsTrialDone seed rows now output errors
EndsTrial seed rows now output errors statuses.WriteFault = IsTrialCut seed rows now output errors
EndsTrial seed rows now output errors statuses.NoMemory = IsTrialStopped output errors
EndsTrial seed rows now output errors status = ⊥
