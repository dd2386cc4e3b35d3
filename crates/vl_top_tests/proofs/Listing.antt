-- Vaults in which nothing is pending.
use Rattle.std.proofs.Common.{ℕ}
use Rattle.parts_list.specs.declared.list.Entry.{Entry}
use Rattle.vl_vault.specs.Disk.{Past}
use Rattle.vl_vault.specs.Moments.{IsDurable}
use Rattle.part_store.specs.Reopening.{AreListedDurable}
use Rattle.part_store.proofs.Every.{always}

-- So nothing is pending in the files of its list.
pub listed_durable : (past : Past) → ((file : ℕ) → IsDurable past file) → AreListedDurable past
listed_durable past each list found =
    always (λ (entry : Entry). IsDurable past entry.file) (λ entry. each entry.file) list.entries
