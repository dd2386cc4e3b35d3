use Rattle.std.proofs.Common.{get_or, ap, arith, refl, [], Bor, List, ℕ}
use Rattle.log_model.specs.Order.{key_of}
use Rattle.lq_order.specs.Ranks.{keyed_of}
use Rattle.lq_order.proofs.Places.{enumerate_made_more}
use Rattle.lq_order.proofs.ranks.all_keyed.Goals as goal

pub loop-at-preserved : goal.loop-at-preserved
loop-at-preserved c =
    let none : Bor (List ℕ) = record { ref_ptr = (0, 0); now = [] } in
    enumerate_made_more keyed_of (λ t. key_of t.now) c.args.texts.now c.loop-at.at c.loop-at.keyed.items
    c.push.new.self.items
    _ (get_or c.args.texts.now c.loop-at.at none) none
    c.in_ok-push.ensures.items (ap (λ k. (c.loop-at.at, k)) c.of.ensures) refl (omega arith) c.loop-at.invariant
