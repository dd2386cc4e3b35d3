use Rattle.std.proofs.Common.{◌≤◌, map, take}
use Rattle.std.specs.Arc.{arc_value}
use Rattle.std.specs.List.{AllZip}
use Rattle.vl_vault.specs.Disk.{content}
use Rattle.vl_vault.specs.Moments.{Always, IsUnchanged}
use Rattle.part_store.specs.Reopening.{IsPartOf, IsStoredAt}
use Rattle.part_store.proofs.reopen.read_parts.Given as goal

abbrev pub invariant-loop-i : goal.invariant-loop-i
invariant-loop-i g l = record {
  parts : AllZip IsPartOf (take l.i l.entries) (map arc_value l.parts.items);
  found : g.V.Vault.is_told → AllZip (IsStoredAt (content (g.V.Vault.past l.initial.vault))) (take l.i l.entries)
      (map arc_value l.parts.items);
  moments : g.V.Vault.is_told → Always (IsUnchanged (g.V.Vault.past l.initial.vault)) (g.V.Vault.past l.initial.vault)
      (g.V.Vault.past l.vault);
  stays : g.V.Vault.faults l.initial.vault ≤ g.V.Vault.faults l.vault;
}
