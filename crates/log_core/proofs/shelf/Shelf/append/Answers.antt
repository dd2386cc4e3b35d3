use Rattle.std.proofs.Common.{◌+◌, ◌<◌, length, sym, subst}
use Rattle.log_model.specs.Core.{count_of, held_limit}
use Rattle.std.specs.Arc.{arc_value}
use Rattle.log_core.specs.Commits.{HaveNumber}
use Rattle.log_core.specs.Offers.{offered}
use Rattle.log_core.proofs.Standing.{stands_appended}
use Rattle.log_core.proofs.shelf.Shelf.append.Goals as goal

pub invariant_of-self : goal.invariant_of-self
invariant_of-self g c =
    let rows = g.P.Held.numbered in
    let part = offered c.args.part in
    stands_appended rows part (arc_value c.self.inside.state) _ c.append.result
    (subst (λ h. length h.unsettled < held_limit) (sym c.self.view_is) c.requires.room)
    (subst (λ h. HaveNumber (rows part) (count_of h + 1)) (sym c.self.view_is) c.requires.batch) c.append.ensures.ok
    c.append.ensures.err c.self.invariant
