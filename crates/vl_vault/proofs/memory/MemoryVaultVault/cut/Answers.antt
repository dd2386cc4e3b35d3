use Rattle.std.proofs.Common.{inl, inr, refl, ap}
use Rattle.vl_vault.specs.Disk.{content}
use Rattle.vl_vault.specs.Memory.{VaultState}
use Rattle.vl_vault.proofs.memory.MemoryVaultVault.cut.Goals as goal

-- without memory nothing was done
pub returns-in_default-clause-told : goal.returns-in_default-clause-told
returns-in_default-clause-told c = λ told. record {
  after = content c.args.self.now.past c.args.file;
  adds = inr (ap (λ (v : VaultState). v.past) c.self.view_is);
  cut = inl refl;
  whole = tt;
}
