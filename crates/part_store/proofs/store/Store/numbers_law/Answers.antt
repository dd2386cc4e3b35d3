use Rattle.std.proofs.Common.{◌≡◌, refl, subst}
use Rattle.std.specs.Prelude.{None}
use Rattle.vl_vault.specs.Disk.{content}
use Rattle.part_store.specs.Preparing.{parts_of}
use Rattle.part_store.specs.Reopening.{HasNumbersIn}
use Rattle.part_store.specs.State.{StoreState, as_state}
use Rattle.part_store.proofs.Reopening.{numbers_now}
use Rattle.part_store.proofs.store.Store.numbers_law.Goals as goal

pub returns : goal.returns
returns g c =
    let inside = c.self.inside in
    let told = g.V.Vault.is_told in
    let past = g.V.Vault.past in
    let store : StoreState g.row.V.Denot = as_state inside.vault inside.catalog.parts.items inside.catalog.list
    inside.halted in
    subst (λ (s : StoreState g.row.V.Denot). told → s.halted ≡ None → HasNumbersIn (content (past s.vault)) s)
    c.self.view_is
    (λ tells on. numbers_now store inside.catalog.list (parts_of inside.catalog) (past inside.vault)
    c.self.invariant.catalog (c.self.invariant.vault tells on) refl refl)
