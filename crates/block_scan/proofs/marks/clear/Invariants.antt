use Rattle.std.proofs.Common.{◌≡◌, ◌<◌, ℕ, Bool, false, get_or}
use Rattle.block_scan.proofs.marks.clear.Given as goal

abbrev pub invariant-loop-mark : goal.invariant-loop-mark
invariant-loop-mark l = (k : ℕ) (d : Bool) → k < l.mark-index → get_or l.marks k d ≡ false
