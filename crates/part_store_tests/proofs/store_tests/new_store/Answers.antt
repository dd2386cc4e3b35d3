use Rattle.std.proofs.Common.{ℕ, subst, sym}
use Rattle.vl_vault.specs.Memory.{VaultState}
use Rattle.vl_vault.specs.Moments.{IsDurable}
use Rattle.part_store_tests.proofs.store_tests.new_store.Goals as goal

pub reopen_store-requires : goal.reopen_store-requires
reopen_store-requires c =
    subst (λ (v : VaultState). (file : ℕ) → IsDurable v.past file) (sym c.in_ok-vault.ensures) (λ file bytes left. left)
