use Rattle.std.proofs.Common.{subst, sym, ap, ◌∙◌}
use Rattle.log_core.specs.Settled.{AreWhole}
use Rattle.log_core.specs.Shared.{shared_parts}
use Rattle.log_desk.specs.Keeping.{rows_listed}
use Rattle.log_desk.proofs.OpenLaws.{are_whole}
use Rattle.log_desk.proofs.opening.shelf_of.Goals as goal

pub of_days-requires-clause-days : goal.of_days-requires-clause-days
of_days-requires-clause-days g c =
    let store = c.args.store.now in
    let days = c.in_ok-days.ensures ∙ ap rows_listed c.parts.ensures.value in
    subst (λ n. AreWhole (λ rows. rows) n (shared_parts c.in_ok-days.days.items)) (sym c.front.ensures.value)
    (subst (AreWhole (λ rows. rows) store.front) (sym days) (are_whole store c.requires))
