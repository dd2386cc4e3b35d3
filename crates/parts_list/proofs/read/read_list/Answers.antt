use Rattle.std.proofs.Common.{inl}
use Rattle.std.proofs.lemmas.Result.{err_from_is_err_and}
use Rattle.vl_vault.proofs.Runs.{unchanged_on}
use Rattle.parts_list.proofs.ReadLemmas.{both_found, second_fault}
use Rattle.parts_list.proofs.read.read_list.Goals as goal

pub returns-in_err-first-clause-damaged : goal.returns-in_err-first-clause-damaged
returns-in_err-first-clause-damaged g c = λ told.
    let p = err_from_is_err_and c.from_residual.result c.from_residual.ensures.1 in
    rw (p.1, p.2) (inl (c.in_err-first.ensures.damaged told))

pub returns-in_err-second-clause-moments : goal.returns-in_err-second-clause-moments
returns-in_err-second-clause-moments g c = λ told.
    unchanged_on (c.read_slot.ensures.moments told) (c.read_slot-2.ensures.moments told)

pub returns-in_err-second-clause-damaged : goal.returns-in_err-second-clause-damaged
returns-in_err-second-clause-damaged g c = λ told.
    let p = err_from_is_err_and c.from_residual-in_err-second.result c.from_residual-in_err-second.ensures.1 in
    rw (p.1, p.2) (second_fault (g.V.Vault.past c.args.vault.now) _ c.in_ok-first.first
    (c.in_ok-first.ensures.found told) (c.read_slot.ensures.moments told) c.in_err-second.field-0.0
    (c.in_err-second.ensures.damaged told))

pub returns-clause-moments : goal.returns-clause-moments
returns-clause-moments g c = λ told.
    unchanged_on (c.read_slot.ensures.moments told) (c.read_slot-2.ensures.moments told)

pub returns-clause-found : goal.returns-clause-found
returns-clause-found g c = λ told.
    both_found (g.V.Vault.past c.args.vault.now) _ c.in_ok-first.first (c.in_ok-first.ensures.found told)
    (c.read_slot.ensures.moments told)
    c.in_ok-second.second _ (c.in_ok-second.ensures.found told) c.newer.ensures.live
