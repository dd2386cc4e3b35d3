use Rattle.std.proofs.Common.{map, subst, sym}
use Rattle.log_model.specs.Core.{Contents, swap}
use Rattle.log_model.specs.History.{Numbered}
use Rattle.log_model.proofs.Standing.{stands_after}
use Rattle.turn_lock.specs.Entries.{whats}
use Rattle.turn_lock.specs.Passes.{Finds, PassState}
use Rattle.log_core.specs.Entries.{nobodys, stands_for}
use Rattle.log_core.specs.Shared.{shared_parts}
use Rattle.log_core.specs.declared.entries.EntryRows.{EntryRows}
use Rattle.log_desk.proofs.SwapLaws.{front_found}
use Rattle.log_desk.proofs.desk.Desk.swap.Goals as goal

pub swap-requires : goal.swap-requires
swap-requires g c =
    let inside = c.enter-turn.result.pass.now in
    front_found c.value-shelf.result.now c.args.pass.now inside c.args.front (shared_parts c.args.days.items)
    (subst (λ pass. Finds pass inside) c.pass.view_is c.enter-turn.ensures.finds) c.requires.front.1 c.requires.days
    (subst (λ s. stands_for (λ rows. rows) s (whats inside.seen)) (sym c.value-shelf.ensures.value)
    c.enter-turn.ensures.value.0)

pub leave-requires-clause-value : goal.leave-requires-clause-value
leave-requires-clause-value g c =
    let inside = c.enter-turn.result.pass.now in
    let new = c.swap.new.self in
    let stands : stands_for (λ rows. rows) new (whats inside.seen) =
    stands_after (λ rows. rows) c.value-shelf.result.now new (map nobodys (whats inside.seen)) (swap c.args.front)
    c.in-Ok.ensures.goes
    (subst (λ s. stands_for (λ rows. rows) s (whats inside.seen)) (sym c.value-shelf.ensures.value)
    c.enter-turn.ensures.value.0) in
    subst (λ s. stands_for (λ rows. rows) s (whats c.settle.new.self.pass.now.seen)) (sym c.settle.ensures.same.2)
    (subst (λ (p : PassState EntryRows). stands_for (λ rows. rows) new (whats p.seen))
    (sym c.settle.ensures.pass) stands)
