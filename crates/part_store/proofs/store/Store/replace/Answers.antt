use Rattle.std.proofs.Common.{◌≡◌, inl, map, subst, sym}
use Rattle.std.specs.Prelude.{None}
use Rattle.std.specs.List.{All, Contains}
use Rattle.vl_vault.specs.Moments.{Always, EachImage, now}
use Rattle.vl_vault.proofs.Runs.{weaken}
use Rattle.part_store.specs.Finds.{FindsOldOrNew}
use Rattle.part_store.specs.Preparing.{parts_of}
use Rattle.part_store.specs.State.{Listed, StoreState, as_state, day_part_of}
use Rattle.part_store.proofs.Replacing.{old_or_new}
use Rattle.part_store.proofs.Standing.{finds_now}
use Rattle.part_store.proofs.store.Store.replace.Goals as goal

pub returns-then-is_spent-clause-moments : goal.returns-then-is_spent-clause-moments
returns-then-is_spent-clause-moments g c =
    let inside = c.self.inside in
    let told = g.V.Vault.is_told in
    let past = g.V.Vault.past in
    subst (λ (s : StoreState g.row.V.Denot). told → s.halted ≡ None
    → Always (EachImage (FindsOldOrNew c.args.old.now (map day_part_of c.args.new.now) c.args.front s))
    (past s.vault) (past s.vault))
    c.self.view_is
    (λ tells on. now (λ image may. inl (finds_now inside.catalog.list (parts_of inside.catalog) c.self.invariant.catalog
    (past inside.vault) (c.self.invariant.vault tells on) image may)))

pub returns-in_default-prepare-clause-moments : goal.returns-in_default-prepare-clause-moments
returns-in_default-prepare-clause-moments g c =
    let inside = c.self.inside in
    let told = g.V.Vault.is_told in
    let past = g.V.Vault.past in
    subst (λ (s : StoreState g.row.V.Denot). told → s.halted ≡ None
    → Always (EachImage (FindsOldOrNew c.args.old.now (map day_part_of c.args.new.now) c.args.front s))
    (past s.vault) (past s.vault))
    c.self.view_is
    (λ tells on. now (λ image may. inl (finds_now inside.catalog.list (parts_of inside.catalog) c.self.invariant.catalog
    (past inside.vault) (c.self.invariant.vault tells on) image may)))

pub put_on_vault-requires-clause-listed : goal.put_on_vault-requires-clause-listed
put_on_vault-requires-clause-listed g c =
    subst (λ (s : StoreState g.row.V.Denot). All (Contains (map (λ (part : Listed). part.file) s.parts)) c.args.old.now)
    (sym c.self.view_is) c.requires.listed

pub returns-in-Ok-put_on_vault-clause-moments : goal.returns-in-Ok-put_on_vault-clause-moments
returns-in-Ok-put_on_vault-clause-moments g c = λ told on.
    let inside = c.self.inside in
    let past = g.V.Vault.past in
    let old = c.args.old.now in
    let new = map day_part_of c.args.new.now in
    let next = c.in-Ok.next.catalog in
    let store : StoreState g.row.V.Denot =
    as_state inside.vault inside.catalog.parts.items inside.catalog.list inside.halted in
    let p = c.in-Ok.ensures in
    subst (λ (s : StoreState g.row.V.Denot). Always (EachImage (FindsOldOrNew old new c.args.front s)) (past s.vault)
    (past c.put_on_vault.new.vault)) c.self.view_is
    (weaken (λ q each image may. old_or_new store old new c.args.front next.list.front (parts_of next)
    (record { same = p.after.same; by_day = p.after.by_day }) p.front_is image (each image may))
    (c.put_on_vault.ensures.moments told))

pub returns-in-Err-clause-moments : goal.returns-in-Err-clause-moments
returns-in-Err-clause-moments g c = λ told on.
    let inside = c.self.inside in
    let past = g.V.Vault.past in
    let old = c.args.old.now in
    let new = map day_part_of c.args.new.now in
    let next = c.in-Ok.next.catalog in
    let store : StoreState g.row.V.Denot =
    as_state inside.vault inside.catalog.parts.items inside.catalog.list inside.halted in
    let p = c.in-Ok.ensures in
    subst (λ (s : StoreState g.row.V.Denot). Always (EachImage (FindsOldOrNew old new c.args.front s)) (past s.vault)
    (past c.put_on_vault.new.vault)) c.self.view_is
    (weaken (λ q each image may. old_or_new store old new c.args.front next.list.front (parts_of next)
    (record { same = p.after.same; by_day = p.after.by_day }) p.front_is image (each image may))
    (c.put_on_vault.ensures.moments told))
