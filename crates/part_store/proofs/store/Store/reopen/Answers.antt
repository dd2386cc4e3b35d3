use Rattle.std.proofs.Common.{refl}
use Rattle.std.specs.Prelude.{None}
use Rattle.vl_vault.proofs.Runs.{last}
use Rattle.part_store.specs.Preparing.{parts_of}
use Rattle.part_store.specs.State.{StoreState, as_state}
use Rattle.part_store.proofs.Reopening.{found_again, numbers_of}
use Rattle.part_store.proofs.store.Store.reopen.Goals as goal

pub returns-in-Ok-clause-found : goal.returns-in-Ok-clause-found
returns-in-Ok-clause-found g c = λ told.
    let catalog = c.in-Ok.catalog in
    found_again catalog.list (parts_of catalog) (g.V.Vault.past c.args.vault) (g.V.Vault.past c.read_catalog.new.vault)
    c.in-Ok.ensures.whole (c.in-Ok.ensures.on told) (last (c.read_catalog.ensures.moments told))

pub returns-in-Ok-clause-numbers : goal.returns-in-Ok-clause-numbers
returns-in-Ok-clause-numbers g c = λ told.
    let catalog = c.in-Ok.catalog in
    let store : StoreState g.row.V.Denot = as_state c.read_catalog.new.vault catalog.parts.items catalog.list None in
    numbers_of store catalog.list (parts_of catalog) (g.V.Vault.past c.args.vault)
    (g.V.Vault.past c.read_catalog.new.vault)
    c.in-Ok.ensures.whole (c.in-Ok.ensures.on told) (last (c.read_catalog.ensures.moments told)) refl refl
