use Rattle.std.proofs.Common.{◌∙◌, arith, false, not, sym}
use Rattle.block_scan.proofs.Staying.{both, none_walked, walked_all}
use Rattle.block_scan.proofs.marks.remove.Goals as goal

pub loop-i-init : goal.loop-i-init
loop-i-init c = none_walked not c.args.others.now c.args.marks.now

pub loop-i-preserved : goal.loop-i-preserved
loop-i-preserved c =
    sym (both not c.loop-i.i c.args.others.now c.args.marks.now c.loop-i.marks c.loop-i.invariant (omega arith)
    (omega arith) false false)

pub returns : goal.returns
returns c =
    c.loop-i.invariant ∙ walked_all not c.loop-i.i c.args.others.now c.args.marks.now (omega arith) (omega arith)
