use Rattle.std.proofs.Common.{◌≡◌, false, get_or}
use Rattle.block_scan.proofs.Staying.{walked}
use Rattle.block_scan.proofs.values.look_up.Given as goal

abbrev pub invariant-loop-i : goal.invariant-loop-i
invariant-loop-i l = l.marks ≡ walked (λ code. get_or l.answers code false) l.i l.codes l.fn.marks
