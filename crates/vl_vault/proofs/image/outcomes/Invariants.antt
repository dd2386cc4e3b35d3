use Rattle.std.proofs.Common.{◌≡◌, length, vec_len}
use Rattle.vl_vault.proofs.image.outcomes.Given as goal

abbrev pub invariant-loop-i : goal.invariant-loop-i
invariant-loop-i l = vec_len l.outcomes ≡ length l.calls
