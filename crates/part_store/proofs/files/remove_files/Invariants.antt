use Rattle.std.proofs.Common.{◌≤◌}
use Rattle.std.specs.List.{Contains}
use Rattle.vl_vault.specs.Moments.{Always}
use Rattle.part_store.specs.Preparing.{ChangesOnly}
use Rattle.part_store.proofs.files.remove_files.Given as goal

abbrev pub invariant-loop-file : goal.invariant-loop-file
invariant-loop-file g l = record {
  moments : g.V.Vault.is_told → Always (ChangesOnly (Contains l.files) (g.V.Vault.past l.initial.vault))
      (g.V.Vault.past l.initial.vault) (g.V.Vault.past l.vault);
  stays : g.V.Vault.faults l.initial.vault ≤ g.V.Vault.faults l.vault;
}
