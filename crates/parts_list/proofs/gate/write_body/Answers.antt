use Rattle.parts_list.specs.Slots.{IsShut}
use Rattle.vl_vault.proofs.Runs.{begun, wrote_on, cut_on, synced}
use Rattle.parts_list.proofs.Tearing.{shut_behind, shut_cut}
use Rattle.parts_list.proofs.gate.write_body.Goals as goal

pub returns-in_err-cut-clause-moments : goal.returns-in_err-cut-clause-moments
returns-in_err-cut-clause-moments g c = λ told.
    let old = g.V.Vault.past c.args.vault.now in
    let file = c.args.slot in
    cut_on file IsShut old (begun file IsShut old (c.requires.durable told) (c.requires.shut told))
    (c.cut.ensures.told told) shut_cut

pub returns-in_err-write_at-clause-moments : goal.returns-in_err-write_at-clause-moments
returns-in_err-write_at-clause-moments g c = λ told.
    let old = g.V.Vault.past c.args.vault.now in
    let file = c.args.slot in
    let run = cut_on file IsShut old (begun file IsShut old (c.requires.durable told) (c.requires.shut told))
    (c.cut.ensures.told told) shut_cut in
    wrote_on file IsShut old run (c.write_at.ensures.told told) (λ d e shut torn. shut_behind _ d e shut torn)

pub returns-clause-moments : goal.returns-clause-moments
returns-clause-moments g c = λ told.
    let old = g.V.Vault.past c.args.vault.now in
    let file = c.args.slot in
    let run = cut_on file IsShut old (begun file IsShut old (c.requires.durable told) (c.requires.shut told))
    (c.cut.ensures.told told) shut_cut in
    let run = wrote_on file IsShut old run (c.write_at.ensures.told told) (λ d e shut torn. shut_behind _ d e shut
    torn) in
    synced file IsShut old _ run (c.sync.ensures.told told)
