use Rattle.std.proofs.Common.{◌≡◌}
use Rattle.lq_ast.specs.Holds.{is_within}
use Rattle.block_scan.proofs.Staying.{walked}
use Rattle.block_scan.proofs.ends.keep_each_time.Given as goal

abbrev pub invariant-loop-i : goal.invariant-loop-i
invariant-loop-i l = l.marks ≡ walked (is_within l.ends.low l.ends.high) l.i l.times l.fn.marks
