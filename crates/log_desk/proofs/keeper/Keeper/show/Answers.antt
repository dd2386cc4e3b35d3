use Rattle.std.proofs.Common.{take, subst, sym, ap, ◌∙◌}
use Rattle.log_model.specs.Batches.{AreOf}
use Rattle.log_core.specs.Shared.{shared_parts}
use Rattle.part_store.specs.State.{StoreState}
use Rattle.log_desk.specs.Keeping.{batches_seen, rows_listed}
use Rattle.log_desk.proofs.OpenLaws.{are_days}
use Rattle.log_desk.proofs.keeper.Keeper.show.Goals as goal

pub swap-requires-clause-days : goal.swap-requires-clause-days
swap-requires-clause-days g c =
    let store : StoreState g.row.V.Denot = c.args.self.now in
    let bs = batches_seen c.args.pass.now.seen in
    let days = c.in_ok-days.ensures ∙ ap rows_listed c.parts.ensures.value
    ∙ ap (λ (s : StoreState g.row.V.Denot). rows_listed s.parts) c.self.view_is in
    let front = c.front-2.ensures.value ∙ ap (λ (s : StoreState g.row.V.Denot). s.front) c.self.view_is in
    subst (λ n. AreOf (λ rows. rows) (shared_parts c.in_ok-days.days.items) (take n bs)) (sym front)
    (subst (λ parts. AreOf (λ rows. rows) parts (take store.front bs)) (sym days)
    (are_days store (take store.front bs) c.requires.holds.are))
