use Rattle.vl_io.specs.Change.{change_of}
use Rattle.part_store.specs.Finds.{Finds}
use Rattle.vl_open.proofs.Found.{holds_found}
use Rattle.vl_open.proofs.Leaving.{images_stay}
use Rattle.vl_open.proofs.Reports.{tells}
use Rattle.vl_open.proofs.open.open_store.Goals as goal

pub returns-in-Ok-clause-holds : goal.returns-in-Ok-clause-holds
returns-in-Ok-clause-holds g c = λ told.
    holds_found c.in-Ok.store (g.V.Vault.past c.args.vault) (c.in-Ok.ensures.found told)

pub returns-in-Ok-clause-moments : goal.returns-in-Ok-clause-moments
returns-in-Ok-clause-moments g c = λ told leaves held each.
    images_stay (Finds held) (g.V.Vault.past c.args.vault) (g.V.Vault.past c.in-Ok.store.vault) leaves each
    (c.in-Ok.ensures.moments told)

pub returns-in-Err-clause-moments : goal.returns-in-Err-clause-moments
returns-in-Err-clause-moments g c = λ told leaves held each.
    images_stay (Finds held) (g.V.Vault.past c.args.vault) (g.V.Vault.past c.in-Err.vault) leaves each
    (c.in-Err.ensures.moments told)

pub returns-in-Err-clause-refused : goal.returns-in-Err-clause-refused
returns-in-Err-clause-refused g c =
    let reported = c.report_fault-status in
    tells g.V.Vault.is_told (g.V.Vault.past c.args.vault) (g.V.Vault.faults c.args.vault)
    (g.V.Vault.faults c.in-Err.vault)
    (change_of g.E.Sink.written g.E.Sink.faults c.args.err.now reported.new.err) c.in-Err.fault reported.result
    reported.ensures c.in-Err.ensures.only c.in-Err.ensures.damaged c.in-Err.ensures.fault
