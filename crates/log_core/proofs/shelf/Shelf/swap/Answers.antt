use Rattle.std.proofs.Common.{◌≡◌, ◌≤◌, arith, ap, sym, subst, ◌∙◌}
use Rattle.log_model.specs.Core.{AreFront, Contents}
use Rattle.log_core.specs.Shared.{shared_parts}
use Rattle.log_core.proofs.Standing.{stands_after_swap}
use Rattle.log_core.proofs.shelf.Shelf.swap.Goals as goal

pub invariant_of-self : goal.invariant_of-self
invariant_of-self g c =
    let held = c.deref-2.result.now in
    let days = shared_parts c.args.days.items in
    let same = c.deref-2.ensures ∙ c.self.view_is in
    stands_after_swap g.P.Held.numbered held _ c.args.front days
    (omega (
      arith,
      c.settled-settled.ensures,
      ap (λ (h : Contents g.row.P.Denot). h.settled) (c.deref.ensures ∙ sym c.deref-2.ensures),
    ))
    (subst (λ h. AreFront g.P.Held.numbered h c.args.front days) (sym same) c.requires) c.in-Ok.ensures
