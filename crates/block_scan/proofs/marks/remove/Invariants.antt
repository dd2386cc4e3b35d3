use Rattle.std.proofs.Common.{◌≡◌, not}
use Rattle.block_scan.proofs.Staying.{walked}
use Rattle.block_scan.proofs.marks.remove.Given as goal

abbrev pub invariant-loop-i : goal.invariant-loop-i
invariant-loop-i l = l.marks ≡ walked not l.i l.others l.fn.marks
