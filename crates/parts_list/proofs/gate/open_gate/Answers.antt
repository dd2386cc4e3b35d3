use Rattle.std.proofs.Common.{inl, drop}
use Rattle.vl_vault.specs.Disk.{content}
use Rattle.parts_list.specs.Slots.{IsClosedOrNew}
use Rattle.vl_vault.proofs.Runs.{begun, wrote, synced}
use Rattle.parts_list.proofs.Tearing.{torn_open, shut-closed}
use Rattle.parts_list.proofs.gate.open_gate.Goals as goal

pub returns-in_err-write_at-clause-moments : goal.returns-in_err-write_at-clause-moments
returns-in_err-write_at-clause-moments g c = λ told.
    let old = g.V.Vault.past c.args.vault.now in
    let file = c.args.slot in
    let slot = content old file in
    let P = IsClosedOrNew (drop 1 slot) in
    let durable = c.requires.durable told in
    let shut = c.requires.shut told in
    wrote file P old (begun file P old durable (inl (shut-closed slot shut))) (c.write_at.ensures.told told) durable
    (λ e torn. torn_open slot e shut torn)

pub returns-clause-moments : goal.returns-clause-moments
returns-clause-moments g c = λ told.
    let old = g.V.Vault.past c.args.vault.now in
    let file = c.args.slot in
    let slot = content old file in
    let P = IsClosedOrNew (drop 1 slot) in
    let durable = c.requires.durable told in
    let shut = c.requires.shut told in
    let run = wrote file P old (begun file P old durable (inl (shut-closed slot shut))) (c.write_at.ensures.told
    told) durable (λ e torn. torn_open slot e shut torn) in
    synced file P old _ run (c.sync.ensures.told told)
