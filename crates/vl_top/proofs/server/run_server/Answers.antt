use Rattle.std.proofs.Common.{◌≤◌, ap, subst, sym, take, ◌∙◌}
use Rattle.vl_io.specs.Change.{change_of}
use Rattle.vl_vault.specs.Moments.{Always, EachImage}
use Rattle.log_desk.specs.Keeping.{batches_seen}
use Rattle.part_store.specs.Finds.{Finds}
use Rattle.vl_pipe.specs.VaultChange.{vault_change}
use Rattle.vl_serve.specs.Doors.{door_changes}
use Rattle.vl_serve.specs.Keeping.{FindsOnward}
use Rattle.vl_top.specs.Server.{EndsServer, TellsEnd}
use Rattle.vl_top.proofs.Outliving.{found_onward, outlives, same_halted, same_vault}
use Rattle.vl_top.proofs.ServerLemmas.{ends_server, vault_cause}
use Rattle.vl_top.proofs.server.run_server.Goals as goal

pub returns-in-Err-clause-outlives : goal.returns-in-Err-clause-outlives
returns-in-Err-clause-outlives g c tells held has =
    found_onward held _ _ (c.in-Err.ensures.moments tells has.leaves held has.images)

pub returns-in-Ok-of_store-clause-ends : goal.returns-in-Ok-of_store-clause-ends
returns-in-Ok-of_store-clause-ends g c =
    let errors = change_of g.E.Sink.written g.E.Sink.faults c.args.err.now c.report_end.new.err in
    let vault = vault_change g.V.Vault.past g.V.Vault.faults c.args.vault c.into_vault.result in
    let doors = door_changes g.D.Doors.left g.D.Doors.faults c.args.doors.now.items c.serve-end.new.doors.items in
    let kept = c.in-Ok-of_store.ensures.keeper.0 in
    let on = same_halted kept ∙ c.in-Ok.ensures.opened.0 in
    let before = subst (λ s. g.V.Vault.faults c.args.vault ≤ g.V.Vault.faults s.vault)
    (sym kept) c.in-Ok.ensures.stays in
    let after = ap g.V.Vault.faults
    (c.into_vault.ensures ∙ same_vault c.into_store.ensures) in
    let cause = vault_cause g.V.Vault.faults c.in-Ok-of_store.keeper c.serve-end.new.keeper vault
    c.serve-end.result.kept on before after c.serve-end.ensures.kept in
    let said = subst (λ err. TellsEnd (change_of g.E.Sink.written g.E.Sink.faults err c.report_end.new.err)
    c.report_end.result) c.in-Ok.ensures.opened.2 c.report_end.ensures.said in
    subst (EndsServer g.V.Vault.is_told errors vault doors) (sym c.report_end.ensures.status)
    (ends_server g.V.Vault.is_told errors vault doors c.serve-end.result c.serve-end.ensures.ends cause
    (subst (TellsEnd errors) c.report_end.ensures.status said))

pub returns-in-Ok-of_store-clause-outlives : goal.returns-in-Ok-of_store-clause-outlives
returns-in-Ok-of_store-clause-outlives g c tells held has =
    let kept = c.in-Ok-of_store.ensures.keeper.0 in
    let on = same_halted kept ∙ c.in-Ok.ensures.opened.0 in
    let seen = batches_seen c.in-Ok-of_store.pass.seen in
    let holds = (c.in-Ok.ensures.holds tells).images has.leaves held has.rows has.images in
    let last = c.into_vault.ensures ∙ same_vault c.into_store.ensures in
    let then = c.serve-end.ensures.keeping.moments tells on in
    outlives c.in-Ok.store held seen _ (g.V.Vault.past c.in-Ok.store.vault) (g.V.Vault.past c.into_vault.result) holds
    c.in-Ok-of_store.ensures.history.0 (c.in-Ok.ensures.moments tells has.leaves held has.images)
    (subst (λ v. Always (EachImage (FindsOnward (take c.in-Ok.store.front seen)))
    (g.V.Vault.past c.in-Ok.store.vault) (g.V.Vault.past v)) (sym last)
    (subst (λ s. Always (EachImage (FindsOnward (take s.front seen)))
    (g.V.Vault.past s.vault) (g.V.Vault.past c.serve-end.new.keeper.vault)) kept then))

pub returns-in-Err-of_store-clause-outlives : goal.returns-in-Err-of_store-clause-outlives
returns-in-Err-of_store-clause-outlives g c tells held has =
    let back = c.into_vault-in-Err-of_store.ensures
    ∙ same_vault c.in-Err-of_store.ensures.back in
    found_onward held _ _ (subst (λ v. Always (EachImage (Finds held)) (g.V.Vault.past c.args.vault) (g.V.Vault.past v))
    (sym back) (c.in-Ok.ensures.moments tells has.leaves held has.images))
