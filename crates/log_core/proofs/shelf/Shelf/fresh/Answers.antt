use Rattle.std.proofs.Common.{[], ◌∙◌, ap}
use Rattle.log_core.specs.Settled.{settled_only}
use Rattle.log_core.specs.Shared.{shared_parts}
use Rattle.log_core.proofs.Standing.{stands_nothing}
use Rattle.log_core.proofs.shelf.Shelf.fresh.Goals as goal

pub invariant_of-result : goal.invariant_of-result
invariant_of-result g c = (
  [],
  stands_nothing g.P.Held.numbered _
      (c.in_ok-state.ensures.ok ∙ c.in_ok-of_days.ensures
      ∙ ap (λ parts. settled_only 0 (shared_parts parts)) c.new.ensures.items),
)
