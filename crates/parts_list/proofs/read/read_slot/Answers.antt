use Rattle.vl_vault.proofs.Runs.{begun_unchanged, read_on, unchanged_on}
use Rattle.parts_list.proofs.read.read_slot.Goals as goal

pub returns-in_err-has_open_gate-clause-moments : goal.returns-in_err-has_open_gate-clause-moments
returns-in_err-has_open_gate-clause-moments g c = λ told.
    read_on _ (begun_unchanged (g.V.Vault.past c.args.vault.now)) (c.has_open_gate.ensures.told told)

pub returns-then-not-branch-clause-moments : goal.returns-then-not-branch-clause-moments
returns-then-not-branch-clause-moments g c = λ told.
    read_on _ (begun_unchanged (g.V.Vault.past c.args.vault.now)) (c.has_open_gate.ensures.told told)

pub returns-clause-moments : goal.returns-clause-moments
returns-clause-moments g c = λ told.
    let front = read_on _ (begun_unchanged (g.V.Vault.past c.args.vault.now)) (c.has_open_gate.ensures.told told) in
    unchanged_on front (c.read_open_slot.ensures.moments told)
