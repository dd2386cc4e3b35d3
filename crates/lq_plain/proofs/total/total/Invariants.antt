use Rattle.std.proofs.Common.{◌≡◌, ◌*◌, ◌^◌, ◌+ℤ◌, ◌≤ℤ◌, fold, neg_ℤ, pos, take}
use Rattle.lq_plain.proofs.total.total.Given as goal

abbrev pub invariant-loop-number : goal.invariant-loop-number
invariant-loop-number l =
    (l.sum ≡ fold (λ sum n. sum +ℤ n) (pos 0) (take l.number-index l.numbers))
    × (neg_ℤ (pos (2 ^ 63 * l.number-index)) ≤ℤ l.sum) × (l.sum ≤ℤ pos (2 ^ 63 * l.number-index))
