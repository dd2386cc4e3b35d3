-- A new vault.
use Rattle.std.proofs.Common.{List, [], ◌∷◌}
use Rattle.std.specs.List.{AllByRecursion}
use Rattle.parts_list.specs.declared.list.Entry.{Entry}
use Rattle.vl_vault.specs.Moments.{IsDurable}
use Rattle.part_store.specs.Reopening.{AreListedDurable}

durable : (entries : List Entry) → AllByRecursion (λ entry. IsDurable [] entry.file) entries
durable [] = tt
durable (entry ∷ entries) = (λ bytes left. left, durable entries)

-- Nothing is pending in it.
pub new_durable : AreListedDurable []
new_durable list found = durable list.entries
