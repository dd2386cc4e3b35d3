-- A shelf of settled batches only.
use Rattle.std.specs.Prelude.{◌≡◌, ℕ, ◌<◌, List, [], length}
use Rattle.std.specs.List.{AllByRecursion}
use Rattle.log_model.specs.Batches.{AreOf}
use Rattle.log_model.specs.Core.{Contents, Stands}
use Rattle.log_model.specs.History.{History, Numbered, batches_in}
use Rattle.log_model.specs.Row.{Batch}

-- each of the batches has a row
abbrev pub HaveRows : List Batch → Type 0
HaveRows batches = AllByRecursion (λ batch. 0 < length batch) batches

-- The parts hold the rows of exactly this many batches.
abbrev pub AreWhole : {P : Type 0} → (P → List Numbered) → ℕ → List P → Type 0
AreWhole rows front days =
    (batches : List Batch) × (length batches ≡ front) × HaveRows batches × AreOf rows days batches

-- `front` batches are held as these day parts, and no other.
abbrev pub settled_only : {P : Type 0} → ℕ → List P → Contents P
settled_only front days = record { settled = front; days = days; unsettled = [] }

-- What is held stands for each history of whose batches these are the parts, whoever made them.
abbrev pub StandsForParts : {P : Type 0} → (P → List Numbered) → ℕ → List P → Contents P → Type 0
StandsForParts rows front days held =
    (history : History) → length history ≡ front → AreOf rows days (batches_in history) → Stands rows held history
