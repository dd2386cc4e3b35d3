use Rattle.std.proofs.Common.{◌≡◌, take}
use Rattle.vl_vault.specs.Disk.{MayLeave, content}
use Rattle.vl_vault.specs.Record.{past_of}
use Rattle.vl_vault.proofs.image.crash_content.Given as goal

abbrev pub invariant-loop-i : goal.invariant-loop-i
invariant-loop-i l =
    MayLeave (past_of (take l.i l.calls)) l.file l.left.items × (l.now ≡ content (past_of (take l.i l.calls)) l.file)
