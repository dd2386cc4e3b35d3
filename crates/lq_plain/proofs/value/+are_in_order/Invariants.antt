use Rattle.std.proofs.Common.{◌≡◌, ◌<◌, ◌≤◌, ◌+◌, ◌&&◌, ℕ, false, length}
use Rattle.log_model.specs.Words.{stands_at}
use Rattle.lq_ast.specs.Phrases.{in_order}
use Rattle.lq_plain.proofs.value.+are_in_order.Given as goal

abbrev pub decreases-are_in_order : goal.decreases-are_in_order
decreases-are_in_order l = length l.phrases.now

abbrev pub invariant-loop-place : goal.invariant-loop-place
invariant-loop-place l =
    (k : ℕ) → l.from ≤ k → k < l.place
    → (stands_at l.value l.phrase k && in_order l.value (k + length l.phrase) l.others) ≡ false
