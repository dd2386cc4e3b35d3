-- The vault in memory, as callers see it.
use Rattle.std.specs.Prelude.{◌≡◌, ◌⊎◌, ℕ, ◌+◌, ◌-◌, List, drop, Contains, Result, MatchResult}
use Rattle.vl_vault.specs.Disk.{Past}

pub record VaultState : Type 0 where
  -- what the calls did, the newest first, after the contents that the vault began with
  pub past : Past
  -- how many calls were made
  pub calls : ℕ
  -- the numbers of the calls that fail, counted from 0
  pub failing : List ℕ
  pub faults : ℕ

-- the moment after this many calls
abbrev pub moment : VaultState → ℕ → Past
moment vault call = drop (vault.calls - call) vault.past

-- A call is counted, unless there is no memory for its record: then it did nothing. A call that is counted fails only
-- if its number is among those that fail.
abbrev pub CountsCall : {T E : Type 0} → VaultState → VaultState → Result T E → Type 0
CountsCall old new result =
    (new.failing ≡ old.failing) × MatchResult result
    (λ _. (new.calls ≡ old.calls + 1) × (new.faults ≡ old.faults))
    (λ _. ((new.calls ≡ old.calls) × (new.past ≡ old.past))
    ⊎ ((new.calls ≡ old.calls + 1) × Contains old.failing old.calls))
