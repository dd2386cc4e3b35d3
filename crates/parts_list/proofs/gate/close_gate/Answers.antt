use Rattle.std.proofs.Common.{inr, refl, subst}
use Rattle.vl_vault.specs.Disk.{content, IsTorn}
use Rattle.parts_list.specs.Slots.{IsClosedOrOld}
use Rattle.vl_vault.proofs.Runs.{begun, was_read, wrote, synced, durable_read, content_read}
use Rattle.parts_list.proofs.Tearing.{torn_old, unshut}
use Rattle.parts_list.proofs.gate.close_gate.Goals as goal

pub returns-in_err-has_shut_gate-clause-moments : goal.returns-in_err-has_shut_gate-clause-moments
returns-in_err-has_shut_gate-clause-moments g c = λ told.
    let old = g.V.Vault.past c.args.vault.now in
    let P = IsClosedOrOld (content old c.args.slot) in
    was_read c.args.slot P old _ (begun c.args.slot P old (c.requires told) (inr refl)) (c.has_shut_gate.ensures.told
    told)

pub returns-then-branch-clause-moments : goal.returns-then-branch-clause-moments
returns-then-branch-clause-moments g c = λ told.
    let old = g.V.Vault.past c.args.vault.now in
    let P = IsClosedOrOld (content old c.args.slot) in
    was_read c.args.slot P old _ (begun c.args.slot P old (c.requires told) (inr refl)) (c.has_shut_gate.ensures.told
    told)

pub returns-in_err-write_at-clause-moments : goal.returns-in_err-write_at-clause-moments
returns-in_err-write_at-clause-moments g c = λ told.
    let old = g.V.Vault.past c.args.vault.now in
    let slot = content old c.args.slot in
    let P = IsClosedOrOld slot in
    let mid = c.has_shut_gate.ensures.told told in
    let run = was_read c.args.slot P old _ (begun c.args.slot P old (c.requires told) (inr refl)) mid in
    let is_open = unshut _ slot (c.in_ok-has_shut_gate.ensures.shut told) c.if-branch.false in
    wrote c.args.slot P old run (c.write_at.ensures.told told) (durable_read _ _ _ c.args.slot mid (c.requires told))
    (λ e torn. torn_old slot e (subst (λ f. IsTorn 0 1 f e) (content_read _ _ _ c.args.slot mid) torn) is_open)

pub returns-clause-moments : goal.returns-clause-moments
returns-clause-moments g c = λ told.
    let old = g.V.Vault.past c.args.vault.now in
    let slot = content old c.args.slot in
    let P = IsClosedOrOld slot in
    let mid = c.has_shut_gate.ensures.told told in
    let run = was_read c.args.slot P old _ (begun c.args.slot P old (c.requires told) (inr refl)) mid in
    let is_open = unshut _ slot (c.in_ok-has_shut_gate.ensures.shut told) c.if-branch.false in
    let run = wrote c.args.slot P old run (c.write_at.ensures.told told) (durable_read _ _ _ c.args.slot mid
    (c.requires told)) (λ e torn. torn_old slot e (subst (λ f. IsTorn 0 1 f e) (content_read _ _ _ c.args.slot
    mid) torn) is_open) in
    synced c.args.slot P old _ run (c.sync.ensures.told told)
