-- What a command does to a vault.
use Rattle.std.specs.Prelude.{◌≡◌, ℕ}
use Rattle.vl_vault.specs.Disk.{Past}

-- its past and its count of faults, before the command and after it
pub record VaultChange : Type 0 where
  pub before : Past
  pub after : Past
  pub faults_before : ℕ
  pub faults_after : ℕ

-- from one state to another, where these tell the past and count the faults
abbrev pub vault_change : {V : Type 0} → (V → Past) → (V → ℕ) → V → V → VaultChange
vault_change past faults before after = record {
  before = past before;
  after = past after;
  faults_before = faults before;
  faults_after = faults after;
}

-- No call was made on it.
abbrev pub IsUncalled : VaultChange → Type 0
IsUncalled vault = (vault.after ≡ vault.before) × (vault.faults_after ≡ vault.faults_before)
