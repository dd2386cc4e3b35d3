use Rattle.std.proofs.Common.{◌≡◌, take}
use Rattle.vl_vault.specs.Record.{past_of}
use Rattle.vl_vault.specs.Replay.{touches}
use Rattle.vl_vault.proofs.image.touches.Given as goal

abbrev pub invariant-loop-call : goal.invariant-loop-call
invariant-loop-call l = l.found ≡ touches (past_of (take l.call-index l.calls)) l.file
