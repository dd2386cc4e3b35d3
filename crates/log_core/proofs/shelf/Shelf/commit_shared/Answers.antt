use Rattle.std.proofs.Common.{sym, subst}
use Rattle.std.specs.Arc.{arc_value}
use Rattle.log_core.specs.Commits.{HaveNumber}
use Rattle.log_core.proofs.Standing.{goes_by, have_number, refused_as_it_was, stands_with}
use Rattle.log_core.proofs.shelf.Shelf.commit_shared.Goals as goal

pub append-requires-clause-batch : goal.append-requires-clause-batch
append-requires-clause-batch g c =
    let rows = g.P.Held.numbered in
    subst (HaveNumber (rows (arc_value c.in-Ok-with_number.part))) c.in-Ok.ensures.value.0
    (subst (λ list. HaveNumber list c.in-Ok.number) (sym c.in-Ok-with_number.ensures.ok)
    (have_number (rows (arc_value c.args.part)) c.in-Ok.number c.requires))

pub returns-in-Ok-append-clause-goes : goal.returns-in-Ok-append-clause-goes
returns-in-Ok-append-clause-goes g c =
    goes_by g.P.Held.numbered (arc_value c.args.part) (arc_value c.in-Ok-with_number.part) c.in-Ok.number
    c.args.self.now _ c.in-Ok.ensures.value.0 c.in-Ok.ensures.room c.in-Ok-with_number.ensures.ok
    c.in-Ok-append.ensures.ok

pub returns-in-Ok-append-clause-stands : goal.returns-in-Ok-append-clause-stands
returns-in-Ok-append-clause-stands g c =
    stands_with g.P.Held.numbered (arc_value c.args.part) c.args.self.now _
    (goes_by g.P.Held.numbered (arc_value c.args.part) (arc_value c.in-Ok-with_number.part) c.in-Ok.number
    c.args.self.now _ c.in-Ok.ensures.value.0 c.in-Ok.ensures.room c.in-Ok-with_number.ensures.ok
    c.in-Ok-append.ensures.ok)

pub returns-in-Err-with_number-clause-refused : goal.returns-in-Err-with_number-clause-refused
returns-in-Err-with_number-clause-refused g c =
    refused_as_it_was g.P.Held.numbered _ (arc_value c.args.part) _ c.requires c.in-Ok.ensures.value.1
    c.in-Err-with_number.ensures.err
