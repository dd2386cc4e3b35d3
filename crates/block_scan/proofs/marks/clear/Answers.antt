use Rattle.std.proofs.Common.{arith}
use Rattle.block_scan.proofs.Staying.{none_stays}
use Rattle.block_scan.proofs.marks.clear.Goals as goal

pub returns : goal.returns
returns c =
    none_stays c.loop-mark.marks c.args.marks.now c.loop-mark.auto.marks
    (λ k d within. c.loop-mark.invariant k d (omega arith))
