use Rattle.part_store.proofs.Reopening.{begun_synced, both_durable, synced_on}
use Rattle.part_store.proofs.reopen.sync_slots.Goals as goal

pub returns-in_err-sync-clause-moments : goal.returns-in_err-sync-clause-moments
returns-in_err-sync-clause-moments g c = λ told.
    let old = g.V.Vault.past c.args.vault.now in
    synced_on old 0 _ (begun_synced old) (c.sync.ensures.told told)

pub returns-in_err-sync-2-clause-moments : goal.returns-in_err-sync-2-clause-moments
returns-in_err-sync-2-clause-moments g c = λ told.
    let old = g.V.Vault.past c.args.vault.now in
    synced_on old 1 _ (synced_on old 0 _ (begun_synced old) (c.sync.ensures.told told)) (c.sync-2.ensures.told told)

pub returns-clause-moments : goal.returns-clause-moments
returns-clause-moments g c = λ told.
    let old = g.V.Vault.past c.args.vault.now in
    synced_on old 1 _ (synced_on old 0 _ (begun_synced old) (c.sync.ensures.told told)) (c.sync-2.ensures.told told)

pub returns-clause-durable : goal.returns-clause-durable
returns-clause-durable g c = λ told.
    both_durable (g.V.Vault.past c.args.vault.now) (g.V.Vault.past c.sync.new.self) (g.V.Vault.past c.sync-2.new.self)
    (c.in_ok-sync.ensures.told told) (c.in_ok-sync-2.ensures.told told)
