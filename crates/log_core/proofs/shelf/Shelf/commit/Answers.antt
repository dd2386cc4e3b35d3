use Rattle.std.proofs.Common.{sym, subst}
use Rattle.log_model.proofs.Numbering.{batch_is_one}
use Rattle.log_core.specs.Commits.{HaveNumber}
use Rattle.log_core.proofs.Standing.{goes_by, have_number, stands_with}
use Rattle.log_core.proofs.shelf.Shelf.commit.Goals as goal

pub set_batch-requires : goal.set_batch-requires
set_batch-requires g c = batch_is_one _ c.requires

pub append-requires-clause-batch : goal.append-requires-clause-batch
append-requires-clause-batch g c =
    let rows = g.P.Held.numbered in
    subst (HaveNumber (rows c.set_batch.new.self)) c.in-Ok.ensures.value.0
    (subst (λ list. HaveNumber list c.in-Ok.number) (sym c.set_batch.ensures)
    (have_number (rows c.args.part) c.in-Ok.number c.requires))

pub returns-in-Ok-append-clause-goes : goal.returns-in-Ok-append-clause-goes
returns-in-Ok-append-clause-goes g c =
    goes_by g.P.Held.numbered c.args.part c.set_batch.new.self c.in-Ok.number c.args.self.now _
    c.in-Ok.ensures.value.0 c.in-Ok.ensures.room c.set_batch.ensures c.in-Ok-append.ensures.ok

pub returns-in-Ok-append-clause-stands : goal.returns-in-Ok-append-clause-stands
returns-in-Ok-append-clause-stands g c =
    stands_with g.P.Held.numbered c.args.part c.args.self.now _
    (goes_by g.P.Held.numbered c.args.part c.set_batch.new.self c.in-Ok.number c.args.self.now _
    c.in-Ok.ensures.value.0 c.in-Ok.ensures.room c.set_batch.ensures c.in-Ok-append.ensures.ok)
