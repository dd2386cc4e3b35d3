use Rattle.std.proofs.Common.{◌≡◌, subst}
use Rattle.std.specs.Prelude.{None}
use Rattle.vl_vault.specs.Moments.{EachImage}
use Rattle.part_store.specs.Finds.{FindsParts}
use Rattle.part_store.specs.Preparing.{parts_of}
use Rattle.part_store.specs.State.{StoreState}
use Rattle.part_store.proofs.Standing.{finds_now}
use Rattle.part_store.proofs.store.Store.finds_law.Goals as goal

pub returns : goal.returns
returns g c =
    let inside = c.self.inside in
    let told = g.V.Vault.is_told in
    let past = g.V.Vault.past in
    subst (λ (s : StoreState g.row.V.Denot). told → s.halted ≡ None → EachImage (FindsParts s.front s.parts)
    (past s.vault))
    c.self.view_is
    (λ tells on. finds_now inside.catalog.list (parts_of inside.catalog) c.self.invariant.catalog (past inside.vault)
    (c.self.invariant.vault tells on))
