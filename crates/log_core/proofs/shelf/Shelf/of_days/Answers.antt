use Rattle.std.proofs.Common.{◌∙◌}
use Rattle.log_core.specs.Shared.{shared_parts}
use Rattle.log_core.proofs.Standing.{stands_settled, standing_settled}
use Rattle.log_core.proofs.shelf.Shelf.of_days.Goals as goal

pub invariant_of-result : goal.invariant_of-result
invariant_of-result g c =
    standing_settled g.P.Held.numbered c.args.front (shared_parts c.args.days.items) _
    (c.in_ok-state.ensures.ok ∙ c.in_ok-of_days.ensures) c.requires.days

pub returns-clause-stands : goal.returns-clause-stands
returns-clause-stands g c =
    stands_settled g.P.Held.numbered c.args.front (shared_parts c.args.days.items) _
    (c.in_ok-state.ensures.ok ∙ c.in_ok-of_days.ensures)
