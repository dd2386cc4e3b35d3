use Rattle.std.proofs.Common.{take, ℕ}
use Rattle.vl_vault.specs.Replay.{Covers}
use Rattle.vl_vault.specs.Record.{past_of}
use Rattle.vl_vault.proofs.image.crash_contents.Given as goal

abbrev pub invariant-loop-i : goal.invariant-loop-i
invariant-loop-i l = (f : ℕ) → Covers (past_of l.calls) (past_of (take l.i l.calls)) (past_of l.begun.items) f
