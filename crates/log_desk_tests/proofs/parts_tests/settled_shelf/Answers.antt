use Rattle.std.proofs.Common.{length, ap, subst, sym, ◌∙◌, arith}
use Rattle.std.proofs.lemmas.List.{take_all}
use Rattle.log_model.specs.Core.{parts_of}
use Rattle.log_core.specs.Settled.{AreWhole}
use Rattle.log_core.specs.Shared.{shared_parts}
use Rattle.log_core.proofs.Fronts.{are_whole}
use Rattle.log_desk_tests.proofs.parts_tests.settled_shelf.Goals as goal

pub of_days-requires-clause-days : goal.of_days-requires-clause-days
of_days-requires-clause-days c =
    let shelf = c.args.shelf.now in
    let stands = c.count-count.ensures.stands in
    let all = take_all c.len.result (parts_of c.in_ok-look.look) (omega (arith, c.len.ensures)) in
    subst (λ n. AreWhole (λ rows. rows) n (shared_parts c.in_ok-days.days.items)) (sym c.count-count.ensures.value)
    (are_whole (λ rows. rows) shelf (shared_parts c.in_ok-days.days.items) stands.0 stands.1
    (c.in_ok-days.ensures ∙ all ∙ ap parts_of c.in_ok-look.ensures.held))
