use Rattle.std.proofs.Common.{◌≡◌, ◌<◌, ◌≤◌, ◌+◌, ℕ, get_or, [], length, map}
use Rattle.std.specs.Prelude.{vec_items}
use Rattle.vl_vault.specs.Disk.{content}
use Rattle.vl_vault.specs.Moments.{Always, IsDurable}
use Rattle.part_store.specs.Preparing.{ChangesOnly, IsNewFile}
use Rattle.part_store.proofs.files.write_files.Given as goal

abbrev pub invariant-loop-i : goal.invariant-loop-i
invariant-loop-i g l = record {
  moments : g.V.Vault.is_told → Always
      (ChangesOnly (IsNewFile l.first (length l.contents)) (g.V.Vault.past l.initial.vault))
      (g.V.Vault.past l.initial.vault) (g.V.Vault.past l.vault);
  written : g.V.Vault.is_told → (k : ℕ) → k < l.i → IsDurable (g.V.Vault.past l.vault) (l.first + k)
      × (content (g.V.Vault.past l.vault) (l.first + k) ≡ get_or (map vec_items l.contents) k []);
  stays : g.V.Vault.faults l.initial.vault ≤ g.V.Vault.faults l.vault;
}
