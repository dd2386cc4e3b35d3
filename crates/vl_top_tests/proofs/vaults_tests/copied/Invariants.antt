use Rattle.std.proofs.Common.{ℕ}
use Rattle.vl_vault.specs.Moments.{IsDurable}
use Rattle.vl_top_tests.proofs.vaults_tests.copied.Given as goal

abbrev pub invariant-loop-file : goal.invariant-loop-file
invariant-loop-file l = (other : ℕ) → IsDurable l.copy.past other
